-- Scopes of entries, as sets.
use Rattle.std.proofs.Common.{◌≡◌, ℕ, ◌+◌, ◌==◌, Bool, true, false, cond, not, ◌&&◌, ◌||◌, List, [], ◌∷◌, map, flat_map, filter, refl, sym, ap, ◌∙◌, bytes_eq, zero-add}
use Rattle.std.specs.Bool.{beq}
use Rattle.std.specs.List.{All, list_any}
use Rattle.std.specs.FinSet as set
use Rattle.std.specs.FinMap.{IsAntisymmetric}
use Rattle.std.specs.Cmp.{IsTotalOrder}
use Rattle.std.specs.Ordering.{eq_by_cmp}
use Rattle.std.proofs.lemmas.List.Folds.{flat_map-map}
use Rattle.std.proofs.lemmas.List.Elements.{All-head, All-tail}
use Rattle.osc_model.specs.{Permission, exactly, permission_cmp, is_same_method}
use Rattle.osc_model.specs.declared.code.Method.{Method}
use Rattle.osc_scope.specs.{Entry, has, is_below, methods, permissions, scope_of, Written, AreApart, IsLawfulText, permissions_written, scope_written, entry_of}
use Rattle.osc_scope.proofs.MethodLemmas.{same, times, same_is, absent, has_is, has_whole, below_whole}
use Rattle.osc_scope.proofs.Grants.{any-flat_map, any_agree, chosen_is}

-- What follows rests on the order of permissions, as a law of osc_model states it.
module _
    (total : IsTotalOrder permission_cmp)
    (exact : IsAntisymmetric permission_cmp)
    (same_permission : (a b : Permission) → eq_by_cmp permission_cmp a b ≡ (bytes_eq a.path b.path && (beq a.below b.below && is_same_method a.method b.method)))
  where
    -- ---- one path

    abbrev is_one : Permission → Permission → Bool
    is_one q permission = eq_by_cmp permission_cmp q permission

    abbrev among : Permission → List ℕ → Bool → List Method → Bool
    among q path below ms = list_any (is_one q) (map (λ method. record { path = path; below = below; method = method }) ms)

    -- a permission is among those of some methods on a path exactly where path and reach are the same and the method is one of these
    among_is : (q : Permission) (path : List ℕ) (below : Bool) (ms : List Method)
        → among q path below ms ≡ (bytes_eq q.path path && (beq q.below below && list_any (same q.method) ms))
    among_is q path below [] = none (bytes_eq q.path path) (beq q.below below)
      where
        none : (a b : Bool) → false ≡ (a && (b && false))
        none true true = refl
        none true false = refl
        none false b = refl
    among_is q path below (m ∷ ms) =
        (λ i. same_permission q (record { path = path; below = below; method = m }) i || among_is q path below ms i)
        ∙ shared (bytes_eq q.path path) (beq q.below below) (same q.method m) (list_any (same q.method) ms)
      where
        shared : (a b c d : Bool) → ((a && (b && c)) || (a && (b && d))) ≡ (a && (b && (c || d)))
        shared true true c d = refl
        shared true false c d = refl
        shared false b c d = refl

    -- a permission is one of an entry
    entry_has : (entry : Entry) (q : Permission) → list_any (is_one q) (permissions entry) ≡ (bytes_eq q.path entry.path && (beq q.below (is_below entry.mask) && has entry.mask q.method))
    entry_has entry q =
        among_is q entry.path (is_below entry.mask) (filter (has entry.mask) methods)
        ∙ ap (λ b. bytes_eq q.path entry.path && (beq q.below (is_below entry.mask) && b)) (chosen_is entry.mask q.method)

    -- a method on exactly this path
    pub scope_has : (entries : List Entry) (path : List ℕ) (method : Method)
        → set.contains (scope_of entries) (exactly path method) ≡ list_any (λ entry. bytes_eq path entry.path && (not (is_below entry.mask) && has entry.mask method)) entries
    scope_has entries path method =
        let q = exactly path method in
        set.contains-from_list total (flat_map permissions entries) q
        ∙ any-flat_map (is_one q) permissions entries
        ∙ any_agree (λ entry. list_any (is_one q) (permissions entry)) (λ entry. bytes_eq path entry.path && (not (is_below entry.mask) && has entry.mask method)) entries
        (λ entry. entry_has entry q ∙ ap (λ b. bytes_eq path entry.path && (b && has entry.mask method)) (not_below (is_below entry.mask)))
      where
        not_below : (b : Bool) → beq false b ≡ not b
        not_below true = refl
        not_below false = refl

    -- ---- as text

    once_among : (ms : List Method) (m : Method) → AreApart ms → (times m ms == 1) ≡ list_any (same m) ms
    once_among [] m apart = refl
    once_among (n ∷ ms) m apart = go (same m n) refl (once_among ms m apart.1)
      where
        go : (b : Bool) → same m n ≡ b → (times m ms == 1) ≡ list_any (same m) ms → (cond b 1 0 + times m ms == 1) ≡ (b || list_any (same m) ms)
        go true e rest =
            let none : times m ms ≡ 0 = ap (λ x. times x ms) (same_is m n e) ∙ absent n ms apart.0 in
            rw none refl
        go false e rest = rw (zero-add (times m ms)) rest

    -- the permissions of an entry of text are those of its set
    written_has : (entry : Written) (q : Permission) → IsLawfulText entry
        → list_any (is_one q) (permissions (entry_of entry)) ≡ list_any (is_one q) (permissions_written entry)
    written_has entry q e =
        entry_has (entry_of entry) q
        ∙ (λ i. bytes_eq q.path entry.path && (beq q.below (below_whole entry.methods entry.below e.apart i)
        && (has_whole _ entry.below q.method ∙ has_is entry.methods q.method e.apart ∙ once_among entry.methods q.method e.apart) i))
        ∙ sym (among_is q entry.path entry.below entry.methods)

    pub same_scope : (entries : List Written) → All IsLawfulText entries → scope_of (map entry_of entries) ≡ scope_written entries
    same_scope entries lawful = set.same_set total exact _ _ (λ q.
        set.contains-from_list total (flat_map permissions (map entry_of entries)) q
        ∙ ap (list_any (is_one q)) (flat_map-map permissions entry_of entries)
        ∙ any-flat_map (is_one q) (λ entry. permissions (entry_of entry)) entries
        ∙ agree q entries lawful
        ∙ sym (any-flat_map (is_one q) permissions_written entries)
        ∙ sym (set.contains-from_list total (flat_map permissions_written entries) q))
      where
        agree : (q : Permission) (entries : List Written) → All IsLawfulText entries
            → list_any (λ entry. list_any (is_one q) (permissions (entry_of entry))) entries ≡ list_any (λ entry. list_any (is_one q) (permissions_written entry)) entries
        agree q [] lawful = refl
        agree q (entry ∷ entries) lawful = λ i.
            written_has entry q (All-head IsLawfulText entry entries lawful) i || agree q entries (All-tail IsLawfulText entry entries lawful) i
