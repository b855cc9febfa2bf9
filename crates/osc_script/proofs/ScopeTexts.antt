-- A scope's text is that of one list of entries.
use Rattle.std.proofs.Common.{◌≡◌, ◌≢◌, ℕ, ◌==◌, Bool, true, false, cond, not, codes, List, [], ◌∷◌, ◌++◌, get_or, map, refl, sym, ap, ◌∙◌, arith, eqb-true, eq-eqb}
use Rattle.std.specs.List.{All, list_all, slice_split}
use Rattle.std.proofs.lemmas.Bool.{and_parts}
use Rattle.std.proofs.lemmas.Bool.Decides.{nat_tests}
use Rattle.std.proofs.lemmas.List.Elements.{All-nil, All-cons, All-head, All-tail, All-append, All-weaker}
use Rattle.std.proofs.lemmas.List.Splits.{slice_split_none, slice_split_at}
use Rattle.osc_model.specs.declared.code.Method.{Method}
use Rattle.osc_model.specs.declared.code.Method.TheVariants.{Get, Post, Put, Delete}
use Rattle.osc_scope.specs.{Written, name_of, below_word, words_of, parted_by, entry_text, IsLawfulText, IsScopeText}

abbrev Lacks : ℕ → List ℕ → Type 0
Lacks byte text = All (λ b. b ≢ byte) text

abbrev cut : ℕ → List ℕ → List (List ℕ)
cut byte text = slice_split (λ b. b == byte) text

differs : (a b : ℕ) → a ≢ b → (a == b) ≡ false
differs a b h = go (a == b) refl
  where
    go : (r : Bool) → (a == b) ≡ r → (a == b) ≡ false
    go true e = absurd (h (eqb-true a b e))
    go false e = e

no_test : (byte : ℕ) (text : List ℕ) → Lacks byte text → All (λ b. (b == byte) ≡ false) text
no_test byte text h = All-weaker (λ b. b ≢ byte) (λ b. (b == byte) ≡ false) (λ b. differs b byte) text h

cut_parted : (byte : ℕ) (part : List ℕ) (parts : List (List ℕ)) → All (Lacks byte) (part ∷ parts) → cut byte (parted_by byte (part ∷ parts)) ≡ part ∷ parts
cut_parted byte part [] h = slice_split_none (λ b. b == byte) part (no_test byte part (All-head (Lacks byte) part [] h))
cut_parted byte part (next ∷ parts) h =
    slice_split_at (λ b. b == byte) part byte (parted_by byte (next ∷ parts)) (no_test byte part (All-head (Lacks byte) part (next ∷ parts) h)) (eq-eqb byte byte refl)
    ∙ ap (λ rest. part ∷ rest) (cut_parted byte next parts (All-tail (Lacks byte) part (next ∷ parts) h))

one_cut : (byte : ℕ) (p q x y : List ℕ) → Lacks byte p → Lacks byte q → p ++ byte ∷ x ≡ q ++ byte ∷ y → (p ≡ q) × (x ≡ y)
one_cut byte [] [] x y hp hq e = (refl, cc)
one_cut byte [] (b ∷ q) x y hp hq e = absurd (All-head (λ c. c ≢ byte) b q hq cc)
one_cut byte (a ∷ p) [] x y hp hq e = absurd (All-head (λ c. c ≢ byte) a p hp cc)
one_cut byte (a ∷ p) (b ∷ q) x y hp hq e =
    let rest = one_cut byte p q x y (All-tail (λ c. c ≢ byte) a p hp) (All-tail (λ c. c ≢ byte) b q hq) cc in
    (cc, rest.1)

parted_lacks : (byte separator : ℕ) (parts : List (List ℕ)) → separator ≢ byte → All (Lacks byte) parts → Lacks byte (parted_by separator parts)
parted_lacks byte separator [] other h = All-nil (λ c. c ≢ byte)
parted_lacks byte separator (part ∷ []) other h = All-head (Lacks byte) part [] h
parted_lacks byte separator (part ∷ next ∷ parts) other h =
    All-append (λ c. c ≢ byte) part (separator ∷ parted_by separator (next ∷ parts)) (All-head (Lacks byte) part (next ∷ parts) h)
    (All-cons (λ c. c ≢ byte) separator (parted_by separator (next ∷ parts)) other
    (parted_lacks byte separator (next ∷ parts) other (All-tail (Lacks byte) part (next ∷ parts) h)))

lacks_by : (byte : ℕ) (text : List ℕ) → list_all (λ b. not (b == byte)) text ≡ true → Lacks byte text
lacks_by byte [] e = All-nil (λ b. b ≢ byte)
lacks_by byte (b ∷ text) e =
    let parts = and_parts (not (b == byte)) (list_all (λ b. not (b == byte)) text) e in
    All-cons (λ b. b ≢ byte) b text (differs parts.0) (lacks_by byte text parts.1)
  where
    differs : not (b == byte) ≡ true → b ≢ byte
    differs e same = grind (arith, nat_tests)

name_lacks : (m : Method) → Lacks 43 (name_of m) × Lacks 44 (name_of m) × Lacks 58 (name_of m)
name_lacks Get = (lacks_by 43 (codes "GET") refl, lacks_by 44 (codes "GET") refl, lacks_by 58 (codes "GET") refl)
name_lacks Post = (lacks_by 43 (codes "POST") refl, lacks_by 44 (codes "POST") refl, lacks_by 58 (codes "POST") refl)
name_lacks Put = (lacks_by 43 (codes "PUT") refl, lacks_by 44 (codes "PUT") refl, lacks_by 58 (codes "PUT") refl)
name_lacks Delete = (lacks_by 43 (codes "DELETE") refl, lacks_by 44 (codes "DELETE") refl, lacks_by 58 (codes "DELETE") refl)

names_lack : (ms : List Method) → All (Lacks 43) (map name_of ms) × All (Lacks 44) (map name_of ms) × All (Lacks 58) (map name_of ms)
names_lack [] = (All-nil (Lacks 43), All-nil (Lacks 44), All-nil (Lacks 58))
names_lack (m ∷ ms) =
    let one = name_lacks m in
    let more = names_lack ms in (
      All-cons (Lacks 43) (name_of m) (map name_of ms) one.0 more.0,
      All-cons (Lacks 44) (name_of m) (map name_of ms) one.1 more.1,
      All-cons (Lacks 58) (name_of m) (map name_of ms) one.2 more.2,
    )

abbrev named_by : ℕ → ℕ → Method
named_by first second = cond (first == 71) Get (cond (first == 68) Delete (cond (second == 79) Post Put))

named_back : (m : Method) → named_by (get_or (name_of m) 0 0) (get_or (name_of m) 1 0) ≡ m
named_back Get = refl
named_back Post = refl
named_back Put = refl
named_back Delete = refl

one_name : (m n : Method) → name_of m ≡ name_of n → m ≡ n
one_name m n e = sym (named_back m) ∙ ap (λ name. named_by (get_or name 0 0) (get_or name 1 0)) e ∙ named_back n

below_lacks : (b : Bool) → All (Lacks 43) (below_word b) × All (Lacks 44) (below_word b)
below_lacks true = (
  All-cons (Lacks 43) (codes "SUB") [] (lacks_by 43 (codes "SUB") refl) (All-nil (Lacks 43)),
  All-cons (Lacks 44) (codes "SUB") [] (lacks_by 44 (codes "SUB") refl) (All-nil (Lacks 44)),
)
below_lacks false = (All-nil (Lacks 43), All-nil (Lacks 44))

words_lack : (entry : Written) → All (Lacks 43) (words_of entry) × All (Lacks 44) (words_of entry)
words_lack entry =
    let names = names_lack entry.methods in
    let last = below_lacks entry.below in (
      All-append (Lacks 43) (map name_of entry.methods) (below_word entry.below) names.0 last.0,
      All-append (Lacks 44) (map name_of entry.methods) (below_word entry.below) names.1 last.1,
    )

sub_is_no_name : (m : Method) → name_of m ≢ codes "SUB"
sub_is_no_name m e = never m (ap (λ name. get_or name 0 0) e)
  where
    never : (m : Method) → get_or (name_of m) 0 0 ≢ 83
    never Get = λ (same : 71 ≡ 83). absurd (omega arith)
    never Post = λ (same : 80 ≡ 83). absurd (omega arith)
    never Put = λ (same : 80 ≡ 83). absurd (omega arith)
    never Delete = λ (same : 68 ≡ 83). absurd (omega arith)

-- words are those of some methods, and SUB or not, in one way
one_saying : (ms ns : List Method) (b c : Bool) → map name_of ms ++ below_word b ≡ map name_of ns ++ below_word c → (ms ≡ ns) × (b ≡ c)
one_saying [] [] true true e = (refl, refl)
one_saying [] [] true false e = cc
one_saying [] [] false true e = cc
one_saying [] [] false false e = (refl, refl)
one_saying [] (n ∷ ns) true c e = absurd (sub_is_no_name n (sym cc))
one_saying [] (n ∷ ns) false c e = cc
one_saying (m ∷ ms) [] b true e = absurd (sub_is_no_name m cc)
one_saying (m ∷ ms) [] b false e = cc
one_saying (m ∷ ms) (n ∷ ns) b c e =
    let head = one_name m n cc in
    let tail = one_saying ms ns b c cc in
    ((λ i. head i ∷ tail.0 i), tail.1)

-- the words, parted and cut again
words_back : (entry : Written) → entry.methods ≢ [] → cut 43 (parted_by 43 (words_of entry)) ≡ words_of entry
words_back entry some = go (words_of entry) (some_word entry.methods some) (words_lack entry).0
  where
    some_word : (ms : List Method) → ms ≢ [] → map name_of ms ++ below_word entry.below ≢ []
    some_word [] some e = some refl
    some_word (m ∷ ms) some e = cc

    go : (words : List (List ℕ)) → words ≢ [] → All (Lacks 43) words → cut 43 (parted_by 43 words) ≡ words
    go [] some h = absurd (some refl)
    go (word ∷ words) some h = cut_parted 43 word words h

comma_free : (entry : Written) → IsLawfulText entry → Lacks 44 (entry_text entry)
comma_free entry e =
    All-append (λ b. b ≢ 44) entry.path (58 ∷ parted_by 43 (words_of entry))
    (All-weaker (λ b. (b ≢ 58) × (b ≢ 44)) (λ b. b ≢ 44) (λ b h. h.1) entry.path e.plain)
    (All-cons (λ b. b ≢ 44) 58 (parted_by 43 (words_of entry)) (λ (same : 58 ≡ 44). absurd (omega arith))
    (parted_lacks 44 43 (words_of entry) (λ (same : 43 ≡ 44). absurd (omega arith)) (words_lack entry).1))

comma_free_all : (entries : List Written) → All IsLawfulText entries → All (Lacks 44) (map entry_text entries)
comma_free_all [] h = All-nil (Lacks 44)
comma_free_all (entry ∷ entries) h =
    All-cons (Lacks 44) (entry_text entry) (map entry_text entries) (comma_free entry (All-head IsLawfulText entry entries h))
    (comma_free_all entries (All-tail IsLawfulText entry entries h))

-- it is cut into those of its entries
scope_parts : (text : List ℕ) (entries : List Written) → IsScopeText text entries → cut 44 text ≡ map entry_text entries
scope_parts text [] s = absurd (s.some refl)
scope_parts text (entry ∷ entries) s = ap (cut 44) s.spelled ∙ cut_parted 44 (entry_text entry) (map entry_text entries) (comma_free_all (entry ∷ entries) s.lawful)

-- an entry's text tells it
one_entry : (entry other : Written) → IsLawfulText entry → IsLawfulText other → entry_text entry ≡ entry_text other → entry ≡ other
one_entry entry other e o same =
    let free = All-weaker (λ b. (b ≢ 58) × (b ≢ 44)) (λ b. b ≢ 58) (λ b h. h.0) entry.path e.plain in
    let other_free = All-weaker (λ b. (b ≢ 58) × (b ≢ 44)) (λ b. b ≢ 58) (λ b h. h.0) other.path o.plain in
    let parts = one_cut 58 entry.path other.path (parted_by 43 (words_of entry)) (parted_by 43 (words_of other)) free other_free same in
    let words = one_saying entry.methods other.methods entry.below other.below (sym (words_back entry e.some) ∙ (ap (cut 43) parts.1 ∙ words_back other o.some)) in
    λ i. record { path = parts.0 i; methods = words.0 i; below = words.1 i }

one_list : (entries others : List Written) → All IsLawfulText entries → All IsLawfulText others → map entry_text entries ≡ map entry_text others → entries ≡ others
one_list [] [] h g e = refl
one_list [] (o ∷ others) h g e = cc
one_list (x ∷ entries) [] h g e = cc
one_list (x ∷ entries) (o ∷ others) h g e =
    let head = one_entry x o (All-head IsLawfulText x entries h) (All-head IsLawfulText o others g) cc in
    let tail = one_list entries others (All-tail IsLawfulText x entries h) (All-tail IsLawfulText o others g) cc in
    λ i. head i ∷ tail i

pub one_text : (text : List ℕ) (entries others : List Written) → IsScopeText text entries → IsScopeText text others → entries ≡ others
one_text text entries others s t = one_list entries others s.lawful t.lawful (sym (scope_parts text entries s) ∙ scope_parts text others t)
