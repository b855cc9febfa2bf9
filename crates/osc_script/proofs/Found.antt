-- What was found, or wasn't.
use Rattle.std.proofs.Common.{◌≡◌, Bool, true, false, cond, Option, Some, None, option_map, refl, inl, inr, ◌⊎◌}
use Rattle.osc_script.specs.Inner.Reading.{◌>>=◌}

-- the value of a step that found one
pub step_found : {A B : Type 0} (o : Option A) (f : A → Option B) (y : B) → (o >>= f) ≡ Some y → (x : A) × (o ≡ Some x) × (f x ≡ Some y)
step_found (Some x) f y e = (x, refl, e)
step_found None f y e = absurd cc

-- the value of which another was made
pub mapped_found : {A B : Type 0} (f : A → B) (o : Option A) (y : B) → option_map f o ≡ Some y → (x : A) × (o ≡ Some x) × (y ≡ f x)
mapped_found f (Some x) y e = (x, refl, cc)
mapped_found f None y e = absurd cc

pub not_mapped : {A B : Type 0} (f : A → B) (o : Option A) → option_map f o ≡ None → o ≡ None
not_mapped f (Some x) e = absurd cc
not_mapped f None e = refl

-- a test that held
pub test_held : {A : Type 0} (b : Bool) (o : Option A) (y : A) → cond b o None ≡ Some y → (b ≡ true) × (o ≡ Some y)
test_held true o y e = (refl, e)
test_held false o y e = absurd cc

-- nothing, where no value can be
pub none_unless : {A : Type 0} (o : Option A) → ((x : A) → o ≡ Some x → ⊥) → o ≡ None
none_unless None h = refl
none_unless (Some x) h = absurd (h x refl)

-- which way a test went
pub chosen : {A : Type 0} (b : Bool) (x y z : Option A) → cond b x y ≡ z → ((b ≡ true) × (x ≡ z)) ⊎ ((b ≡ false) × (y ≡ z))
chosen true x y z e = inl (refl, e)
chosen false x y z e = inr (refl, e)
