-- A set of permissions.
use Rattle.std.proofs.Common.{◌≡◌, ℕ, List, [], ◌∷◌, ◌++◌, map, flat_map, Bool, true, false, ◌||◌, refl, sym, ap, ◌∙◌}
use Rattle.std.specs.Ordering.{eq_by_cmp}
use Rattle.std.specs.Cmp.{IsTotalOrder, Equal-is}
use Rattle.std.specs.FinMap.{IsAntisymmetric}
use Rattle.std.specs.FinSet as set
use Rattle.osc_model.specs.{Permission, exactly, permission_cmp}
use Rattle.osc_model.specs.Scope.{Scope as Granted}
use Rattle.osc_model.specs.declared.code.Method.{Method}
use Rattle.osc_model.specs.declared.code.Method.TheVariants.{Get, Post, Put, Delete}
use Rattle.osc_scope.specs.{bit_of, permissions, scope_of, entry_with}
use Rattle.std.specs.List.{list_any, insert}
use Rattle.std.proofs.lemmas.List.{map-append, flat_map_more}
use Rattle.std.proofs.lemmas.List.Sorted.{IsPermutation-insert, IsPermutation-to_front, list_any-IsPermutation}
use Rattle.osc_scope.proofs.Grants.{any-map, any-flat_map}

absorbed : (a b : Bool) → (a ≡ true → b ≡ true) → (a || b) ≡ b
absorbed true true h = refl
absorbed true false h = sym (h refl)
absorbed false b h = refl

-- to add what is there changes nothing
pub insert_present : IsTotalOrder permission_cmp → IsAntisymmetric permission_cmp
    → (scope : Granted) (permission : Permission) → set.contains scope permission ≡ true → set.insert scope permission ≡ scope
insert_present total exact scope permission there = set.same_set total exact _ _ (λ q.
    set.contains-insert total scope permission q
    ∙ absorbed (eq_by_cmp permission_cmp q permission) (set.contains scope q)
    (λ tied. ap (set.contains scope) (exact q permission ((Equal-is (permission_cmp q permission)).0 tied)) ∙ there))

-- the set of one method permits it alone, on the path alone
one_permission : (path : List ℕ) (m : Method) → permissions (entry_with (path, bit_of m)) ≡ exactly path m ∷ []
one_permission path Get = refl
one_permission path Post = refl
one_permission path Put = refl
one_permission path Delete = refl

-- so one such entry more adds the permission
pub scope_push : IsTotalOrder permission_cmp → IsAntisymmetric permission_cmp → (pairs : List (List ℕ × ℕ)) (path : List ℕ) (m : Method)
    → scope_of (map entry_with (pairs ++ (path, bit_of m) ∷ [])) ≡ set.insert (scope_of (map entry_with pairs)) (exactly path m)
scope_push total exact pairs path m =
    let entries = map entry_with pairs in
    ap scope_of (map-append entry_with pairs ((path, bit_of m) ∷ []))
    ∙ ap set.from_list (sym (flat_map_more permissions [] entries (entry_with (path, bit_of m))))
    ∙ ap (λ more. set.from_list (flat_map permissions entries ++ more)) (one_permission path m)
    ∙ set.from_list_push total exact (flat_map permissions entries) (exactly path m)

-- wherever it is added
pub scope_insert : IsTotalOrder permission_cmp → IsAntisymmetric permission_cmp → (pairs : List (List ℕ × ℕ)) (i : ℕ) (path : List ℕ) (m : Method)
    → scope_of (map entry_with (insert pairs i (path, bit_of m))) ≡ set.insert (scope_of (map entry_with pairs)) (exactly path m)
scope_insert total exact pairs i path m = set.same_set total exact _ _ same ∙ scope_push total exact pairs path m
  where
    pair : List ℕ × ℕ
    pair = (path, bit_of m)

    is_in : Permission → List ℕ × ℕ → Bool
    is_in q pair = list_any (eq_by_cmp permission_cmp q) (permissions (entry_with pair))

    contains_is : (q : Permission) (pairs : List (List ℕ × ℕ)) → set.contains (scope_of (map entry_with pairs)) q ≡ list_any (is_in q) pairs
    contains_is q pairs =
        set.contains-from_list total (flat_map permissions (map entry_with pairs)) q
        ∙ any-flat_map (eq_by_cmp permission_cmp q) permissions (map entry_with pairs)
        ∙ any-map (λ entry. list_any (eq_by_cmp permission_cmp q) (permissions entry)) entry_with pairs

    same : (q : Permission) → set.contains (scope_of (map entry_with (insert pairs i pair))) q ≡ set.contains (scope_of (map entry_with (pairs ++ pair ∷ []))) q
    same q =
        contains_is q (insert pairs i pair)
        ∙ sym (list_any-IsPermutation (is_in q) (pair ∷ pairs) (insert pairs i pair) (IsPermutation-insert pairs i pair))
        ∙ sym (list_any-IsPermutation (is_in q) (pairs ++ pair ∷ []) (pair ∷ pairs) (IsPermutation-to_front pairs pair))
        ∙ sym (contains_is q (pairs ++ pair ∷ []))
