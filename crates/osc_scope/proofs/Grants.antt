-- What a scope of entries grants, entry by entry.
use Rattle.std.proofs.Common.{◌≡◌, ◌≢◌, ℕ, ◌/◌, ◌%◌, ◌≤◌, ◌==◌, Bool, true, false, cond, ◌&&◌, ◌||◌, List, [], ◌∷◌, map, flat_map, filter, Some, refl, ap, ◌∙◌, arith}
use Rattle.std.specs.List.{All, list_any}
use Rattle.std.specs.FinSet as set
use Rattle.std.proofs.lemmas.Bool.Decides.{nat_tests}
use Rattle.std.proofs.lemmas.List.Elements.{All-head, All-tail}
use Rattle.std.proofs.lemmas.List.Folds.{list_any-append}
use Rattle.osc_model.specs.{Permission, permission_cmp, covers, stands_for, allows, names, has_subtrees}
use Rattle.osc_model.specs.declared.code.Method.{Method}
use Rattle.osc_model.specs.declared.code.Method.TheVariants.{Get, Post, Put, Delete}
use Rattle.osc_scope.specs.{Entry, IsLawful, entry_with, has, has_path, is_below, methods, permissions, scope_of}
use Rattle.osc_scope.proofs.MethodLemmas.{same}

-- ---- tests over lists

pub any-map : {X Y : Type 0} (p : Y → Bool) (f : X → Y) (xs : List X) → list_any p (map f xs) ≡ list_any (λ x. p (f x)) xs
any-map p f [] = refl
any-map p f (x ∷ xs) = ap (λ b. p (f x) || b) (any-map p f xs)

pub any-flat_map : {X Y : Type 0} (p : Y → Bool) (f : X → List Y) (xs : List X) → list_any p (flat_map f xs) ≡ list_any (λ x. list_any p (f x)) xs
any-flat_map p f [] = refl
any-flat_map p f (x ∷ xs) = list_any-append p (f x) (flat_map f xs) ∙ ap (λ b. list_any p (f x) || b) (any-flat_map p f xs)

pub any_agree : {X : Type 0} (p q : X → Bool) (xs : List X) → ((x : X) → p x ≡ q x) → list_any p xs ≡ list_any q xs
any_agree p q [] h = refl
any_agree p q (x ∷ xs) h = λ i. h x i || any_agree p q xs h i

-- a test beside one that is the same for all
any_beside : {X : Type 0} (at : Bool) (p : X → Bool) (xs : List X) → list_any (λ x. at && p x) xs ≡ (at && list_any p xs)
any_beside at p [] = none at
  where
    none : (a : Bool) → false ≡ (a && false)
    none true = refl
    none false = refl
any_beside at p (x ∷ xs) = ap (λ b. (at && p x) || b) (any_beside at p xs) ∙ shared at (p x) (list_any p xs)
  where
    shared : (a b c : Bool) → ((a && b) || (a && c)) ≡ (a && (b || c))
    shared true b c = refl
    shared false b c = refl

-- ---- the methods of a set

or-false : (b : Bool) → (b || false) ≡ b
or-false true = refl
or-false false = refl

-- those that are chosen and pass are those that pass and are chosen
any-filter : {X : Type 0} (p test : X → Bool) (xs : List X) → list_any p (filter test xs) ≡ list_any (λ x. p x && test x) xs
any-filter p test [] = refl
any-filter p test (x ∷ xs) = go (test x) refl (any-filter p test xs)
  where
    one : (a b : Bool) → (a || b) ≡ ((a && true) || b)
    one true b = refl
    one false b = refl

    none : (a b : Bool) → b ≡ ((a && false) || b)
    none true b = refl
    none false b = refl

    go : (b : Bool) → test x ≡ b → list_any p (filter test xs) ≡ list_any (λ y. p y && test y) xs
        → list_any p (cond (test x) (x ∷ filter test xs) (filter test xs)) ≡ ((p x && test x) || list_any (λ y. p y && test y) xs)
    go true e rest = rw (e, rest) (one (p x) (list_any (λ y. p y && test y) xs))
    go false e rest = rw (e, rest) (none (p x) (list_any (λ y. p y && test y) xs))

-- a method is among those of a set exactly where the set has it
pub chosen_is : (mask : ℕ) (m : Method) → list_any (same m) (filter (has mask) methods) ≡ has mask m
chosen_is mask m = any-filter (same m) (has mask) methods ∙ alone (has mask) m
  where
    alone : (test : Method → Bool) (m : Method) → list_any (λ n. same m n && test n) methods ≡ test m
    alone test Get = or-false (test Get)
    alone test Post = or-false (test Post)
    alone test Put = or-false (test Put)
    alone test Delete = or-false (test Delete)

not_one : (n : ℕ) → (n == 1) ≡ false → n ≢ 1
not_one n e same = grind (arith, nat_tests)

-- a set with a method has one of the four
some_method : (mask : ℕ) → 1 ≤ mask % 16 → list_any (has mask) methods ≡ true
some_method mask some = go (has mask Get) (has mask Post) (has mask Put) (has mask Delete) refl refl refl refl
  where
    go : (g p u d : Bool) → has mask Get ≡ g → has mask Post ≡ p → has mask Put ≡ u → has mask Delete ≡ d → (g || (p || (u || (d || false)))) ≡ true
    go true p u d eg ep eu ed = refl
    go false true u d eg ep eu ed = refl
    go false false true d eg ep eu ed = refl
    go false false false true eg ep eu ed = refl
    go false false false false eg ep eu ed =
        let g = not_one (mask / 1 % 2) eg in
        let p = not_one (mask / 2 % 2) ep in
        let u = not_one (mask / 4 % 2) eu in
        let d = not_one (mask / 8 % 2) ed in
        absurd (omega arith)

-- ---- one entry

entry_allows : (entry : Entry) (path : List ℕ) (method : Method)
    → list_any (λ permission. stands_for permission path method) (permissions entry) ≡ (has_path entry path && has entry.mask method)
entry_allows entry path method =
    any-map (λ (permission : Permission). stands_for permission path method) _ (filter (has entry.mask) methods)
    ∙ any_beside (has_path entry path) (same method) (filter (has entry.mask) methods)
    ∙ ap (λ b. has_path entry path && b) (chosen_is entry.mask method)

and-true : (b : Bool) → (b && true) ≡ b
and-true true = refl
and-true false = refl

entry_names : (entry : Entry) (path : List ℕ) → 1 ≤ entry.mask % 16
    → list_any (λ permission. covers permission path) (permissions entry) ≡ has_path entry path
entry_names entry path some =
    any-map (λ (permission : Permission). covers permission path) _ (filter (has entry.mask) methods)
    ∙ any-filter (λ (method : Method). has_path entry path) (has entry.mask) methods
    ∙ any_beside (has_path entry path) (has entry.mask) methods
    ∙ ap (λ b. has_path entry path && b) (some_method entry.mask some)
    ∙ and-true (has_path entry path)

entry_below : (entry : Entry) → 1 ≤ entry.mask % 16 → list_any (λ permission. permission.below) (permissions entry) ≡ is_below entry.mask
entry_below entry some =
    any-map (λ (permission : Permission). permission.below) _ (filter (has entry.mask) methods)
    ∙ any-filter (λ (method : Method). is_below entry.mask) (has entry.mask) methods
    ∙ any_beside (is_below entry.mask) (has entry.mask) methods
    ∙ ap (λ b. is_below entry.mask && b) (some_method entry.mask some)
    ∙ and-true (is_below entry.mask)

-- ---- all entries

-- What follows rests on a law of osc_model.
abbrev pub AnyPermission : Type 0
AnyPermission = (test : Permission → Bool) (permissions : List Permission)
    → list_any test (set.items (set.from_list {R = permission_cmp} permissions)) ≡ list_any test permissions

pub scope_allows : AnyPermission → (entries : List Entry) (path : List ℕ) (method : Method)
    → allows (scope_of entries) path (Some method) ≡ list_any (λ entry. has_path entry path && has entry.mask method) entries
scope_allows any entries path method =
    let test : Permission → Bool = λ permission. stands_for permission path method in
    any test (flat_map permissions entries)
    ∙ any-flat_map test permissions entries
    ∙ any_agree (λ entry. list_any test (permissions entry)) (λ entry. has_path entry path && has entry.mask method) entries (λ entry. entry_allows entry path method)

pub scope_names : AnyPermission → (entries : List Entry) (path : List ℕ) → All (λ entry. 1 ≤ entry.mask % 16) entries
    → names (scope_of entries) path ≡ list_any (λ entry. has_path entry path) entries
scope_names any entries path some =
    let test : Permission → Bool = λ permission. covers permission path in
    any test (flat_map permissions entries)
    ∙ any-flat_map test permissions entries
    ∙ each entries some
  where
    each : (entries : List Entry) → All (λ entry. 1 ≤ entry.mask % 16) entries
        → list_any (λ entry. list_any (λ permission. covers permission path) (permissions entry)) entries ≡ list_any (λ entry. has_path entry path) entries
    each [] some = refl
    each (entry ∷ entries) some =
        λ i. entry_names entry path (All-head (λ (e : Entry). 1 ≤ e.mask % 16) entry entries some) i
        || each entries (All-tail (λ (e : Entry). 1 ≤ e.mask % 16) entry entries some) i

-- a scope has a permission that counts below its path where one of the entries does
pub goes_below : AnyPermission → (pairs : List (List ℕ × ℕ)) → All IsLawful (map entry_with pairs)
    → has_subtrees (scope_of (map entry_with pairs)) ≡ list_any (λ pair. is_below pair.1) pairs
goes_below any pairs lawful =
    let test : Permission → Bool = λ permission. permission.below in
    any test (flat_map permissions (map entry_with pairs))
    ∙ any-flat_map test permissions (map entry_with pairs)
    ∙ each pairs lawful
  where
    each : (pairs : List (List ℕ × ℕ)) → All IsLawful (map entry_with pairs)
        → list_any (λ entry. list_any (λ permission. permission.below) (permissions entry)) (map entry_with pairs) ≡ list_any (λ pair. is_below pair.1) pairs
    each [] lawful = refl
    each (pair ∷ pairs) lawful =
        λ i. entry_below (entry_with pair) (All-head IsLawful (entry_with pair) (map entry_with pairs) lawful).some i
        || each pairs (All-tail IsLawful (entry_with pair) (map entry_with pairs) lawful) i
