-- Entries as text.
use Rattle.std.proofs.Common.{◌≡◌, ◌≢◌, ℕ, zero, suc, ◌<◌, List, [], ◌∷◌, ◌++◌, length, get_or, map, refl, sym, ap, ◌∙◌, subst, arith, Bor, Vec, String, string_bytes, Global, Result, Err, rules}
use Rattle.std.specs.List.{All}
use Rattle.std.proofs.lemmas.List.{map-append}
use Rattle.std.proofs.lemmas.List.Elements.{All-nil, All-cons, All-head, All-tail, All-push, All-append, All-weaker}
use Rattle.osc_model.specs.{IsPath}
use Rattle.osc_model.specs.declared.code.Method.{Method}
use Rattle.osc_cbor.specs.{no_items, item, array, text_string, unsigned, view, items_view}
use Rattle.osc_cbor.specs.declared.item.Item.{Item, the_lemmas}
use Rattle.osc_cbor.specs.declared.item.Item.TheVariants as code
use Rattle.osc_scope.specs.{entry_item, entry_items, Written, name_of, parted_by, below_word, words_of, entry_text, entry_of, IsLawfulText, IsScopeText, IsEntry, Says, Words}
use Rattle.osc_scope.specs.declared.error.ScopeError.{ScopeError}
use Rattle.osc_scope.specs.declared.error.ScopeError.TheVariants.{BadScope, Memory}
use Rattle.osc_scope.proofs.Parting.{Lacks, cut, cut_parted, parts_back, parted_cut, parts_lack, some_part, one_cut, not_lacking, first_lacks, parted_lacks}
use Rattle.osc_scope.proofs.MethodLemmas.{names_lack, below_lacks, one_saying}
use Rattle.osc_scope.proofs.EntryLemmas.{pushed}

-- ---- words

-- words are without these bytes: `+` and `,`
words_lack : (entry : Written) → All (Lacks 43) (words_of entry) × All (Lacks 44) (words_of entry)
words_lack entry =
    let names = names_lack entry.methods in
    let last = below_lacks entry.below in (
      All-append (Lacks 43) (map name_of entry.methods) (below_word entry.below) names.0 last.0,
      All-append (Lacks 44) (map name_of entry.methods) (below_word entry.below) names.1 last.1,
    )

-- there is one at least
some_word : (entry : Written) → entry.methods ≢ [] → words_of entry ≢ []
some_word entry some = go entry.methods some
  where
    go : (ms : List Method) → ms ≢ [] → map name_of ms ++ below_word entry.below ≢ []
    go [] some e = some refl
    go (m ∷ ms) some e = cc

-- the words, parted and cut again
words_back : (entry : Written) → entry.methods ≢ [] → cut 43 (parted_by 43 (words_of entry)) ≡ words_of entry
words_back entry some = parts_back 43 (words_of entry) (some_word entry some) (words_lack entry).0

-- ---- one entry

-- what was found is an entry
pub entry_is : (text path words : List ℕ) (mask : ℕ) → Lacks 58 path → text ≡ path ++ 58 ∷ words → IsPath path → (w : Words (cut 43 words) mask)
    → IsEntry (record { path = path; methods = w.methods; below = w.below }) × (text ≡ entry_text (record { path = path; methods = w.methods; below = w.below }))
entry_is text path words mask lacks is is_path w = (
  record {
    is_path = is_path;
    no_colon = lacks;
    some = w.some;
    apart = w.apart;
  },
  is ∙ ap (λ rest. path ++ 58 ∷ rest) (sym (parted_cut 43 words) ∙ ap (parted_by 43) w.spelled),
)

-- a text without `:` is no entry
pub needs_colon : (text : List ℕ) → Lacks 58 text → (entry : Written) → IsEntry entry → text ≡ entry_text entry → ⊥
needs_colon text lacks entry e is = not_lacking 58 entry.path (parted_by 43 (words_of entry)) (subst (Lacks 58) is lacks)

-- an entry's path is before the first `:`, and its words after it
pub entry_parts : (text path words : List ℕ) → Lacks 58 path → text ≡ path ++ 58 ∷ words → (entry : Written) → IsEntry entry → text ≡ entry_text entry
    → (path ≡ entry.path) × (cut 43 words ≡ words_of entry)
entry_parts text path words lacks is entry e said =
    let parts = one_cut 58 path entry.path words (parted_by 43 (words_of entry)) lacks e.no_colon (sym is ∙ said) in
    (parts.0, ap (cut 43) parts.1 ∙ words_back entry e.some)

pub view_array : (v : Vec Item Global) → view (code.Array v) ≡ array (items_view v.items)
view_array v = search (rules, the_lemmas)

view_text : (s : String Global) → view (code.Text s) ≡ text_string (string_bytes s)
view_text s = search (rules, the_lemmas)

view_number : (n : ℕ) → view (code.Unsigned n) ≡ unsigned n
view_number n = search (rules, the_lemmas)

-- the item that is written for it
pub item_is : (v : Vec Item Global) (s : String Global) (number : ℕ) (path : List ℕ) (mask : ℕ)
    → v.items ≡ code.Text s ∷ code.Unsigned number ∷ [] → string_bytes s ≡ path → number ≡ mask
    → view (code.Array v) ≡ array (item (text_string path) (item (unsigned mask) no_items))
item_is v s number path mask e is_path is_mask =
    view_array v ∙ ap (λ ds. array (items_view ds)) e
    ∙ (λ i. array (item ((view_text s ∙ ap text_string is_path) i) (item ((view_number number ∙ ap unsigned is_mask) i) no_items)))

-- ---- entries in a row

abbrev texts : List (Bor (List ℕ)) → List (List ℕ)
texts parts = map (λ part. part.now) parts

-- one entry more
pub says_more : (parts : List (Bor (List ℕ))) (part : Bor (List ℕ)) (ds new : List Item) (d : Item)
    → Says (texts parts) (items_view ds) → (entry : Written) × IsEntry entry × (part.now ≡ entry_text entry) × (view d ≡ entry_item (entry_of entry))
    → new ≡ ds ++ d ∷ [] → Says (texts (parts ++ part ∷ [])) (items_view new)
says_more parts part ds new d s (entry, e, is, one) added = record {
  entries = s.entries ++ entry ∷ [];
  lawful = All-push IsEntry s.entries entry s.lawful e;
  spelled =
      map-append (λ (x : Bor (List ℕ)). x.now) parts (part ∷ [])
      ∙ (λ i. s.spelled i ++ is i ∷ [])
      ∙ sym (map-append entry_text s.entries (entry ∷ []));
  written =
      ap items_view added
      ∙ pushed ds d (map entry_of s.entries) (entry_of entry) s.written one
      ∙ ap entry_items (sym (map-append entry_of s.entries (entry ∷ [])));
}

-- a part that is no entry
pub no_entry_text : (all : List (List ℕ)) (k : ℕ) (part : List ℕ) → (k < length all) × (part ≡ get_or all k part)
    → ((entry : Written) → IsEntry entry → part ≡ entry_text entry → ⊥)
    → (entries : List Written) → All IsEntry entries → all ≡ map entry_text entries → ⊥
no_entry_text [] k part (lt, is) none entries lawful e = absurd (omega arith)
no_entry_text (x ∷ all) k part (lt, is) none [] lawful e = cc
no_entry_text (x ∷ all) zero part (lt, is) none (entry ∷ entries) lawful e = none entry (All-head IsEntry entry entries lawful) (is ∙ cc)
no_entry_text (x ∷ all) (suc k) part (lt, is) none (entry ∷ entries) lawful e =
    no_entry_text all k part (omega arith, is) none entries (All-tail IsEntry entry entries lawful) cc

-- ---- a scope's text

comma_free : (entry : Written) → IsLawfulText entry → Lacks 44 (entry_text entry)
comma_free entry e =
    All-append (λ b. b ≢ 44) entry.path (58 ∷ parted_by 43 (words_of entry))
    (All-weaker (λ b. (b ≢ 58) × (b ≢ 44)) (λ b. b ≢ 44) (λ b h. h.1) entry.path e.plain)
    (All-cons (λ b. b ≢ 44) 58 (parted_by 43 (words_of entry)) (λ (same : 58 ≡ 44). absurd (omega arith))
    (parted_lacks 44 43 (words_of entry) (λ (same : 43 ≡ 44). absurd (omega arith)) (words_lack entry).1))

comma_free_all : (entries : List Written) → All IsLawfulText entries → All (Lacks 44) (map entry_text entries)
comma_free_all [] h = All-nil (Lacks 44)
comma_free_all (entry ∷ entries) h =
    All-cons (Lacks 44) (entry_text entry) (map entry_text entries) (comma_free entry (All-head IsLawfulText entry entries h))
    (comma_free_all entries (All-tail IsLawfulText entry entries h))

is_entry : (entry : Written) → IsLawfulText entry → IsEntry entry
is_entry entry e = record {
  is_path = e.is_path;
  no_colon = All-weaker (λ b. (b ≢ 58) × (b ≢ 44)) (λ b. b ≢ 58) (λ b h. h.0) entry.path e.plain;
  some = e.some;
  apart = e.apart;
}

-- it is cut into those of its entries ..
pub scope_parts : (text : List ℕ) (entries : List Written) → IsScopeText text entries → (cut 44 text ≡ map entry_text entries) × All IsEntry entries
scope_parts text [] s = absurd (s.some refl)
scope_parts text (entry ∷ entries) s = (
  ap (cut 44) s.spelled ∙ cut_parted 44 (entry_text entry) (map entry_text entries) (comma_free_all (entry ∷ entries) s.lawful),
  All-weaker IsLawfulText IsEntry is_entry (entry ∷ entries) s.lawful,
)

lawful_text : (entries : List Written) → All IsEntry entries → All (Lacks 44) (map entry_text entries) → All IsLawfulText entries
lawful_text [] h lacks = All-nil IsLawfulText
lawful_text (entry ∷ entries) h lacks =
    All-cons IsLawfulText entry entries (one (All-head IsEntry entry entries h) (All-head (Lacks 44) (entry_text entry) (map entry_text entries) lacks))
    (lawful_text entries (All-tail IsEntry entry entries h) (All-tail (Lacks 44) (entry_text entry) (map entry_text entries) lacks))
  where
    one : IsEntry entry → Lacks 44 (entry_text entry) → IsLawfulText entry
    one e free = record {
      is_path = e.is_path;
      plain = λ k d lt. (e.no_colon k d lt, first_lacks 44 entry.path (58 ∷ parted_by 43 (words_of entry)) free k d lt);
      some = e.some;
      apart = e.apart;
    }

-- .. and what is cut so is one
pub scope_from_parts : (text : List ℕ) (entries : List Written) → cut 44 text ≡ map entry_text entries → All IsEntry entries → IsScopeText text entries
scope_from_parts text entries e h = record {
  spelled = sym (parted_cut 44 text) ∙ ap (parted_by 44) e;
  some = λ none. some_part 44 text (e ∙ ap (map entry_text) none);
  lawful = lawful_text entries h (subst (All (Lacks 44)) e (parts_lack 44 text));
}

-- an entry's text tells it
one_entry : (entry other : Written) → IsEntry entry → IsEntry other → entry_text entry ≡ entry_text other → entry ≡ other
one_entry entry other e o same =
    let parts = entry_parts (entry_text entry) entry.path (parted_by 43 (words_of entry)) e.no_colon refl other o same in
    let words = one_saying entry.methods other.methods entry.below other.below (sym (words_back entry e.some) ∙ parts.1) in
    λ i. record { path = parts.0 i; methods = words.0 i; below = words.1 i }

pub one_list : (entries others : List Written) → All IsEntry entries → All IsEntry others → map entry_text entries ≡ map entry_text others → entries ≡ others
one_list [] [] h g e = refl
one_list [] (o ∷ others) h g e = cc
one_list (x ∷ entries) [] h g e = cc
one_list (x ∷ entries) (o ∷ others) h g e =
    let head = one_entry x o (All-head IsEntry x entries h) (All-head IsEntry o others g) cc in
    let tail = one_list entries others (All-tail IsEntry x entries h) (All-tail IsEntry o others g) cc in
    λ i. head i ∷ tail i

-- an error that isn't the one is the other
pub memory_is : {A : Type 0} (r : Result A ScopeError) (e : ScopeError) → r ≡ Err e → (r ≡ Err BadScope → ⊥) → r ≡ Err Memory
memory_is r BadScope is not_bad = absurd (not_bad is)
memory_is r Memory is not_bad = is
