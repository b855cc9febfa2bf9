-- One of a list is another.
use Rattle.std.proofs.Common.{◌≡◌, ◌≢◌, ap, refl, ℕ, zero, suc, List, [], ◌∷◌, Some}
use Rattle.std.specs.Prelude.{slice_get, slice_set}

pub got_back : {A : Type 0} (xs : List A) (k : ℕ) (x y : A) → slice_get xs k ≡ Some x → slice_get (slice_set xs k y) k ≡ Some y
got_back [] k x y e = absurd (cc)
got_back (z ∷ xs) zero x y e = refl
got_back (z ∷ xs) (suc k) x y e = got_back xs k x y e

pub others_stay : {A : Type 0} (xs : List A) (k : ℕ) (y : A) (other : ℕ) → other ≢ k → slice_get (slice_set xs k y) other ≡ slice_get xs other
others_stay [] k y other apart = refl
others_stay (z ∷ xs) zero y zero apart = absurd (apart refl)
others_stay (z ∷ xs) zero y (suc other) apart = refl
others_stay (z ∷ xs) (suc k) y zero apart = refl
others_stay (z ∷ xs) (suc k) y (suc other) apart = others_stay xs k y other (λ same. apart (ap suc same))
