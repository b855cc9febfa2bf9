-- Entries and the items that they are.
use Rattle.std.proofs.Common.{◌≡◌, ℕ, List, [], ◌∷◌, ◌++◌, append-nil, map, refl, sym, ap, subst, ◌∙◌, Result, Ok, Err, ◌⊎◌, inl, inr}
use Rattle.std.specs.List.{All}
use Rattle.std.specs.Result.{IfOk}
use Rattle.std.proofs.lemmas.List.{map-append}
use Rattle.std.proofs.lemmas.List.Elements.{All-nil, All-cons, All-push, All-head, All-tail}
use Rattle.osc_cbor.specs.{DataItem, array, text_string, unsigned, Items, no_items, item, view, items_of, items_view}
use Rattle.osc_cbor.specs.declared.item.Item.{Item}
use Rattle.osc_model.specs.Scope.{Scope as Permissions}
use Rattle.osc_scope.specs.{Entry, IsLawful, scope_of, entry_item, entry_items, entry_with, HasMethods, AreEntries, AreEntriesBefore}
use Rattle.osc_scope.specs.declared.error.ScopeError.{ScopeError}
use Rattle.osc_scope.specs.declared.error.ScopeError.TheVariants.{BadScope, Memory}

-- ---- entries in a row

pub pushed : (ds : List Item) (d : Item) (entries : List Entry) (e : Entry)
    → items_view ds ≡ entry_items entries → view d ≡ entry_item e → items_view (ds ++ d ∷ []) ≡ entry_items (entries ++ e ∷ [])
pushed [] d [] e same one = ap (λ x. item x no_items) one
pushed [] d (f ∷ entries) e same one = cc
pushed (c ∷ ds) d [] e same one = cc
pushed (c ∷ ds) d (f ∷ entries) e same one =
    let head : view c ≡ entry_item f = cc in
    let tail : items_view ds ≡ entry_items entries = cc in
    let more = pushed ds d entries e tail one in
    cc

-- the items of entries are those of their list
pub as_list : (entries : List Entry) → items_of (map entry_item entries) ≡ entry_items entries
as_list [] = refl
as_list (e ∷ entries) = ap (item (entry_item e)) (as_list entries)

moved : (entries : List Entry) (e : Entry) (left : List DataItem)
    → map entry_item entries ++ entry_item e ∷ left ≡ map entry_item (entries ++ e ∷ []) ++ left
moved [] e left = refl
moved (f ∷ entries) e left = ap (λ ds. entry_item f ∷ ds) (moved entries e left)

-- with none left, the entries are all
pub all_are_entries : (all : List DataItem) (pairs : List (List ℕ × ℕ)) → AreEntriesBefore [] all pairs → AreEntries (items_of all) pairs
all_are_entries all pairs so_far = record {
  lawful = so_far.lawful;
  spelled =
      ap items_of (so_far.spelled ∙ append-nil (map entry_item (map entry_with pairs)))
      ∙ as_list (map entry_with pairs);
}

-- one entry more
pub one_more : (all left : List DataItem) (d : DataItem) (pairs new : List (List ℕ × ℕ)) (pair : List ℕ × ℕ)
    → AreEntriesBefore (d ∷ left) all pairs → IsLawful (entry_with pair) → d ≡ entry_item (entry_with pair) → new ≡ pairs ++ pair ∷ []
    → AreEntriesBefore left all new
one_more all left d pairs new pair so_far lawful one added =
    let mapped : map entry_with new ≡ map entry_with pairs ++ entry_with pair ∷ [] = ap (map entry_with) added ∙ map-append entry_with pairs (pair ∷ []) in
    record {
      lawful = subst (All IsLawful) (sym mapped) (All-push IsLawful (map entry_with pairs) (entry_with pair) so_far.lawful lawful);
      spelled =
          so_far.spelled
          ∙ ap (λ x. map entry_item (map entry_with pairs) ++ x ∷ left) one
          ∙ moved (map entry_with pairs) (entry_with pair) left
          ∙ ap (λ es. map entry_item es ++ left) (sym mapped);
    }

-- entries have methods
pub have_methods : (pairs : List (List ℕ × ℕ)) → All IsLawful (map entry_with pairs) → All HasMethods pairs
have_methods [] h = All-nil HasMethods
have_methods (pair ∷ pairs) h =
    let first = All-head IsLawful (entry_with pair) (map entry_with pairs) h in
    All-cons HasMethods pair pairs (first.some, first.known) (have_methods pairs (All-tail IsLawful (entry_with pair) (map entry_with pairs) h))

none_after : (before left : List DataItem) (d : DataItem)
    → ((e : Entry) → IsLawful e → d ≡ entry_item e → ⊥)
    → (entries : List Entry) → All IsLawful entries → items_of (before ++ d ∷ left) ≡ entry_items entries → ⊥
none_after [] left d none [] lawful same = cc
none_after [] left d none (e ∷ entries) lawful same = none e (All-head IsLawful e entries lawful) cc
none_after (b ∷ before) left d none [] lawful same = cc
none_after (b ∷ before) left d none (e ∷ entries) lawful same =
    none_after before left d none entries (All-tail IsLawful e entries lawful) cc

-- an item that is no entry
pub no_entry_after : (pairs : List (List ℕ × ℕ)) (left : List DataItem) (d : DataItem) (all : List DataItem)
    → AreEntriesBefore (d ∷ left) all pairs → ((e : Entry) → IsLawful e → d ≡ entry_item e → ⊥)
    → (entries : List Entry) → All IsLawful entries → items_of all ≡ entry_items entries → ⊥
no_entry_after pairs left d all so_far none entries lawful same =
    none_after (map entry_item (map entry_with pairs)) left d none entries lawful (ap items_of (sym so_far.spelled) ∙ same)

-- two items that no entry has
pub no_entry_of : (text number : DataItem) → ((e : Entry) → IsLawful e → text ≡ text_string e.path → number ≡ unsigned e.mask → ⊥)
    → (e : Entry) → IsLawful e → array (item text (item number no_items)) ≡ entry_item e → ⊥
no_entry_of text number none e lawful same =
    none e lawful (first_is text number (text_string e.path) (unsigned e.mask) same) (second_is text number (text_string e.path) (unsigned e.mask) same)
  where
    first_is : (a b x y : DataItem) → array (item a (item b no_items)) ≡ array (item x (item y no_items)) → a ≡ x
    first_is a b x y e = cc

    second_is : (a b x y : DataItem) → array (item a (item b no_items)) ≡ array (item x (item y no_items)) → b ≡ y
    second_is a b x y e = cc

-- entries are told by their items
pub one_entry_list : (entries others : List Entry) → entry_items entries ≡ entry_items others → entries ≡ others
one_entry_list [] [] same = refl
one_entry_list [] (f ∷ others) same = cc
one_entry_list (e ∷ entries) [] same = cc
one_entry_list (e ∷ entries) (f ∷ others) same =
    let tail = one_entry_list entries others cc in
    let path : e.path ≡ f.path = cc in
    let mask : e.mask ≡ f.mask = cc in
    λ i. record { path = path i; mask = mask i } ∷ tail i

-- so there is one answer for an item
pub only_one : (d : DataItem) (r : Result Permissions ScopeError)
    → IfOk r (λ scope. (entries : List Entry) × All IsLawful entries × (d ≡ array (entry_items entries)) × (scope ≡ scope_of entries))
    → (r ≡ Err BadScope → (entries : List Entry) → All IsLawful entries → ¬ (d ≡ array (entry_items entries)))
    → (entries : List Entry) → All IsLawful entries → d ≡ array (entry_items entries)
    → (r ≡ Ok (scope_of entries)) ⊎ (r ≡ Err Memory)
only_one d (Ok scope) found bad entries lawful is =
    let same : entry_items found.0 ≡ entry_items entries = cc in
    inl (ap Ok (found.3 ∙ ap scope_of (one_entry_list found.0 entries same)))
only_one d (Err BadScope) found bad entries lawful is = absurd (bad refl entries lawful is)
only_one d (Err Memory) found bad entries lawful is = inr refl

pub one_array : (ds es : Items) → array ds ≡ array es → ds ≡ es
one_array ds es e = cc
