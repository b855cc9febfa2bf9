-- One of a list is another.
use Rattle.std.proofs.Common.{◌≡◌, ap, sym, refl, ℕ, zero, suc, List, [], ◌∷◌, Some}
use Rattle.std.specs.Prelude.{slice_get, slice_set}

pub set_twice : {A : Type 0} (xs : List A) (k : ℕ) (x y : A) → slice_set (slice_set xs k x) k y ≡ slice_set xs k y
set_twice [] k x y = refl
set_twice (z ∷ xs) zero x y = refl
set_twice (z ∷ xs) (suc k) x y = ap (λ rest. z ∷ rest) (set_twice xs k x y)

pub set_same : {A : Type 0} (xs : List A) (k : ℕ) (x : A) → slice_get xs k ≡ Some x → slice_set xs k x ≡ xs
set_same [] k x e = refl
set_same (z ∷ xs) zero x e = let same : z ≡ x = cc in ap (λ y. y ∷ xs) (sym same)
set_same (z ∷ xs) (suc k) x e = ap (λ rest. z ∷ rest) (set_same xs k x e)

pub got_back : {A : Type 0} (xs : List A) (k : ℕ) (x y : A) → slice_get xs k ≡ Some x → slice_get (slice_set xs k y) k ≡ Some y
got_back [] k x y e = absurd (cc)
got_back (z ∷ xs) zero x y e = refl
got_back (z ∷ xs) (suc k) x y e = got_back xs k x y e
