-- What entries say of a method on a path.
use Rattle.std.proofs.Common.{◌≡◌, ℕ, ◌≤◌, ◌%◌, Bool, true, false, ◌&&◌, ◌||◌, if◌then◌else◌, List, [], ◌∷◌, map, Option, Some, None, refl, sym, ap, ◌∙◌}
use Rattle.std.specs.List.{All, list_any}
use Rattle.std.proofs.lemmas.List.Elements.{All-map, All-weaker, All-head, All-tail}
use Rattle.osc_model.specs.{method_of, IsPath, allows, names}
use Rattle.osc_model.specs.declared.code.Code.{Code}
use Rattle.osc_model.specs.declared.code.Method.{Method}
use Rattle.osc_scope.specs.{Entry, IsLawful, has, has_path, is_below, scope_of, HasMethods, entry_with, grants, verdict_of}
use Rattle.osc_scope.specs.declared.verdict.Verdict.{Verdict}
use Rattle.osc_scope.specs.declared.verdict.Verdict.TheVariants.{Granted, NoMethod, NoPath}
use Rattle.osc_scope.proofs.EntryLemmas.{have_methods}
use Rattle.osc_scope.proofs.Grants.{AnyPermission, any-map, scope_allows, scope_names}

abbrev pub reaches : List ℕ × ℕ → List ℕ → Bool
reaches pair path = has_path (entry_with pair) path

-- one pass over the pairs: the first with path and method decides, and one with the path alone is kept in mind
abbrev pub says : List (List ℕ × ℕ) → List ℕ → Option Method → Verdict → Verdict
says [] path method verdict = verdict
says (pair ∷ pairs) path method verdict =
    if reaches pair path then (if grants pair.1 method then Granted else says pairs path method NoMethod)
    else says pairs path method verdict

abbrev has_pair : List (List ℕ × ℕ) → List ℕ → Option Method → Bool
has_pair pairs path method = list_any (λ pair. reaches pair path && grants pair.1 method) pairs

abbrev some_path : List (List ℕ × ℕ) → List ℕ → Bool
some_path pairs path = list_any (λ pair. reaches pair path) pairs

says_is : (pairs : List (List ℕ × ℕ)) (path : List ℕ) (method : Option Method) (verdict : Verdict)
    → says pairs path method verdict ≡ (if has_pair pairs path method then Granted else (if some_path pairs path then NoMethod else verdict))
says_is [] path method verdict = refl
says_is (pair ∷ pairs) path method verdict =
    go (reaches pair path) (grants pair.1 method) (says_is pairs path method NoMethod) (says_is pairs path method verdict)
  where
    either_way : (a b : Bool) → (if a then Granted else (if b then NoMethod else NoMethod)) ≡ (if a then Granted else NoMethod)
    either_way true b = refl
    either_way false true = refl
    either_way false false = refl

    go : (at it : Bool)
        → says pairs path method NoMethod ≡ (if has_pair pairs path method then Granted else (if some_path pairs path then NoMethod else NoMethod))
        → says pairs path method verdict ≡ (if has_pair pairs path method then Granted else (if some_path pairs path then NoMethod else verdict))
        → (if at then (if it then Granted else says pairs path method NoMethod) else says pairs path method verdict)
        ≡ (if (at && it) || has_pair pairs path method then Granted else (if at || some_path pairs path then NoMethod else verdict))
    go true true known rest = refl
    go true false known rest = known ∙ either_way (has_pair pairs path method) (some_path pairs path)
    go false true known rest = rest
    go false false known rest = rest

hits : (pair : List ℕ × ℕ) (pairs : List (List ℕ × ℕ)) (path : List ℕ) (method : Option Method) (verdict : Verdict)
    → reaches pair path ≡ true → grants pair.1 method ≡ true → says (pair ∷ pairs) path method verdict ≡ Granted
hits pair pairs path method verdict at it = go (reaches pair path) (grants pair.1 method) at it
  where
    go : (a b : Bool) → a ≡ true → b ≡ true
        → (if a then (if b then Granted else says pairs path method NoMethod) else says pairs path method verdict) ≡ Granted
    go true true ea eb = refl
    go true false ea eb = cc
    go false b ea eb = cc

-- ---- the pass

-- what the pairs that are left say from here on is what all say
pub record GoesOn (pairs left : List (List ℕ × ℕ)) (path : List ℕ) (method : Option Method) (verdict : Verdict) : Type 0 where
  pub same : says left path method verdict ≡ says pairs path method NoPath
  pub lawful : All IsLawful (map entry_with left)
  pub below : list_any (λ pair. is_below pair.1) left ≡ true → list_any (λ pair. is_below pair.1) pairs ≡ true

or_true : (a : Bool) → (a || true) ≡ true
or_true true = refl
or_true false = refl

module _
    (pairs left : List (List ℕ × ℕ)) (path : List ℕ) (method : Option Method) (verdict : Verdict) (pair : List ℕ × ℕ)
    (on : GoesOn pairs (pair ∷ left) path method verdict)
  where
    next_lawful : All IsLawful (map entry_with left)
    next_lawful = All-tail IsLawful (entry_with pair) (map entry_with left) on.lawful

    next_below : list_any (λ p. is_below p.1) left ≡ true → list_any (λ p. is_below p.1) pairs ≡ true
    next_below e = on.below (ap (λ b. is_below pair.1 || b) e ∙ or_true (is_below pair.1))

    pub is_path : IsPath pair.0
    is_path = (All-head IsLawful (entry_with pair) (map entry_with left) on.lawful).is_path

    pub goes_below : is_below pair.1 ≡ true → list_any (λ p. is_below p.1) pairs ≡ true
    goes_below e = on.below (ap (λ b. b || list_any (λ p. is_below p.1) left) e)

    -- past a pair without the path
    pub passed : reaches pair path ≡ false → GoesOn pairs left path method verdict
    passed no_path = record { same = sym (skips (reaches pair path) no_path) ∙ on.same; lawful = next_lawful; below = next_below }
      where
        skips : (a : Bool) → a ≡ false
            → (if a then (if grants pair.1 method then Granted else says left path method NoMethod) else says left path method verdict) ≡ says left path method verdict
        skips true e = cc
        skips false e = refl

    -- past a pair with the path alone
    pub noted : reaches pair path ≡ true → grants pair.1 method ≡ false → GoesOn pairs left path method NoMethod
    noted at no_method =
        record { same = sym (skips (reaches pair path) (grants pair.1 method) at no_method) ∙ on.same; lawful = next_lawful; below = next_below }
      where
        skips : (a b : Bool) → a ≡ true → b ≡ false
            → (if a then (if b then Granted else says left path method NoMethod) else says left path method verdict) ≡ says left path method NoMethod
        skips true true e f = cc
        skips true false e f = refl
        skips false b e f = cc

-- ---- the scope of the entries

none_of : (pairs : List (List ℕ × ℕ)) (path : List ℕ) → false ≡ has_pair pairs path None
none_of [] path = refl
none_of (pair ∷ pairs) path = none_of pairs path ∙ go (reaches pair path) (has_pair pairs path None)
  where
    go : (a b : Bool) → b ≡ ((a && false) || b)
    go true b = refl
    go false b = refl

module _ (any : AnyPermission) where
  allows_is : (pairs : List (List ℕ × ℕ)) (path : List ℕ) (method : Option Method) → allows (scope_of (map entry_with pairs)) path method ≡ has_pair pairs path method
  allows_is pairs path None = none_of pairs path
  allows_is pairs path (Some method) =
      scope_allows any (map entry_with pairs) path method
      ∙ any-map (λ (entry : Entry). has_path entry path && has entry.mask method) entry_with pairs

  names_is : (pairs : List (List ℕ × ℕ)) (path : List ℕ) → All HasMethods pairs → names (scope_of (map entry_with pairs)) path ≡ some_path pairs path
  names_is pairs path h =
      scope_names any (map entry_with pairs) path
      (All-map (λ (entry : Entry). 1 ≤ entry.mask % 16) entry_with pairs (All-weaker HasMethods (λ pair. 1 ≤ pair.1 % 16) (λ pair has. has.0) pairs h))
      ∙ any-map (λ (entry : Entry). has_path entry path) entry_with pairs

  -- so the pass gives the verdict
  pub verdict_is : (pairs : List (List ℕ × ℕ)) (path : List ℕ) (c : Code) → All HasMethods pairs
      → says pairs path (method_of c) NoPath ≡ verdict_of (scope_of (map entry_with pairs)) (Some path) c
  verdict_is pairs path c h =
      says_is pairs path (method_of c) NoPath
      ∙ (λ i. if sym (allows_is pairs path (method_of c)) i then Granted else (if sym (names_is pairs path h) i then NoMethod else NoPath))

  -- at the end of the pass
  pub at_end : (pairs : List (List ℕ × ℕ)) (path : List ℕ) (c : Code) (method : Option Method) (verdict : Verdict) → All IsLawful (map entry_with pairs)
      → method ≡ method_of c → GoesOn pairs [] path method verdict → verdict ≡ verdict_of (scope_of (map entry_with pairs)) (Some path) c
  at_end pairs path c method verdict lawful named on = on.same ∙ ap (λ m. says pairs path m NoPath) named ∙ verdict_is pairs path c (have_methods pairs lawful)

  -- where a pair has path and method
  pub at_hit : (pairs left : List (List ℕ × ℕ)) (path : List ℕ) (c : Code) (method : Option Method) (verdict : Verdict) (pair : List ℕ × ℕ)
      → All IsLawful (map entry_with pairs) → method ≡ method_of c → reaches pair path ≡ true → grants pair.1 method ≡ true
      → GoesOn pairs (pair ∷ left) path method verdict → Granted ≡ verdict_of (scope_of (map entry_with pairs)) (Some path) c
  at_hit pairs left path c method verdict pair lawful named at it on =
      sym (hits pair left path method verdict at it)
      ∙ on.same
      ∙ ap (λ m. says pairs path m NoPath) named
      ∙ verdict_is pairs path c (have_methods pairs lawful)
