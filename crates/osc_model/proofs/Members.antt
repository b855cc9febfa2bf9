-- Tests over the members of a set, and over the list that the set is made of.
use Rattle.std.proofs.Common.{◌≡◌, Bool, true, false, ◌&&◌, ◌||◌, List, [], ◌∷◌, refl, sym, ap, ◌∙◌}
use Rattle.std.specs.List.{list_any}
use Rattle.std.specs.Cmp.{IsTotalOrder, Equal-is, tied_itself}
use Rattle.std.specs.Ordering.{eq_by_cmp, is_eq}
use Rattle.std.specs.declared.cmp.Ordering.{Ordering}
use Rattle.std.specs.FinMap.{IsAntisymmetric}
use Rattle.std.specs.FinSet as set

pub or_true : (b : Bool) → (b || true) ≡ true
or_true true = refl
or_true false = refl

pub both_ways : (a b : Bool) → (a ≡ true → b ≡ true) → (b ≡ true → a ≡ true) → a ≡ b
both_ways true b to from = sym (to refl)
both_ways false true to from = from refl
both_ways false false to from = refl

-- what passes two tests passes the first
pub any_weaker : {X : Type 0} (p q : X → Bool) (xs : List X) → list_any (λ x. p x && q x) xs ≡ true → list_any p xs ≡ true
any_weaker p q [] e = e
any_weaker p q (x ∷ xs) e = go (p x) (q x) e (any_weaker p q xs)
  where
    go : (a b : Bool) → ((a && b) || list_any (λ y. p y && q y) xs) ≡ true → (list_any (λ y. p y && q y) xs ≡ true → list_any p xs ≡ true) → (a || list_any p xs) ≡ true
    go true b e rest = refl
    go false b e rest = rest e

module _ {K : Type 0} {R : K → K → Ordering} (total : IsTotalOrder R) (exact : IsAntisymmetric R) (test : K → Bool) where
  record Passes (xs : List K) : Type 0 where
    member : K
    passes : test member ≡ true
    there : list_any (eq_by_cmp R member) xs ≡ true

  found : (xs : List K) → list_any test xs ≡ true → Passes xs
  found [] e = cc
  found (x ∷ xs) e = go (test x) refl e (found xs)
    where
      go : (a : Bool) → test x ≡ a → (a || list_any test xs) ≡ true → (list_any test xs ≡ true → Passes xs) → Passes (x ∷ xs)
      go true is e rest = record { member = x; passes = is; there = ap (λ b. b || list_any (eq_by_cmp R x) xs) (ap is_eq (tied_itself total x)) }
      go false is e rest =
          let one = rest e in
          record { member = one.member; passes = one.passes; there = ap (λ b. eq_by_cmp R one.member x || b) one.there ∙ or_true (eq_by_cmp R one.member x) }

  kept : (member : K) → test member ≡ true → (xs : List K) → list_any (eq_by_cmp R member) xs ≡ true → list_any test xs ≡ true
  kept member passes [] e = e
  kept member passes (x ∷ xs) e = go (eq_by_cmp R member x) refl e (kept member passes xs)
    where
      go : (a : Bool) → eq_by_cmp R member x ≡ a → (a || list_any (eq_by_cmp R member) xs) ≡ true → (list_any (eq_by_cmp R member) xs ≡ true → list_any test xs ≡ true) → (test x || list_any test xs) ≡ true
      go true is e rest = ap (λ b. b || list_any test xs) (ap test (sym (exact member x ((Equal-is (R member x)).0 is))) ∙ passes)
      go false is e rest = ap (λ b. test x || b) (rest e) ∙ or_true (test x)

  among : (xs ys : List K) → ((q : K) → list_any (eq_by_cmp R q) xs ≡ list_any (eq_by_cmp R q) ys) → list_any test xs ≡ true → list_any test ys ≡ true
  among xs ys same e = let one = found xs e in kept one.member one.passes ys (sym (same one.member) ∙ one.there)

  -- a set has the members of the list that it is made of, and no others
  pub any_member : (xs : List K) → list_any test (set.items (set.from_list {R = R} xs)) ≡ list_any test xs
  any_member xs =
      let members = set.items (set.from_list {R = R} xs) in
      let same : (q : K) → list_any (eq_by_cmp R q) members ≡ list_any (eq_by_cmp R q) xs =
      λ q. sym (set.contains-items (set.from_list {R = R} xs) q) ∙ set.contains-from_list total xs q in
      both_ways (list_any test members) (list_any test xs) (among members xs same) (among xs members (λ q. sym (same q)))
