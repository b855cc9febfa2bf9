-- What can't be stored is too long.
use Rattle.std.proofs.Common.{◌≡◌, ◌≤◌, ◌+◌, ◌^◌, ℕ, false, List, length, Option, Some, None, Result, Ok, Err, OnOk, refl, arith, inl, inr}
use Rattle.std.proofs.lemmas.Bool.{cases_lt}
use Rattle.std.proofs.lemmas.List.Elements.{All-from_recursion}
use Rattle.std.proofs.lemmas.List.Sums.{sum_by-cons}
use Rattle.std.proofs.lemmas.Nat.Bits.{bit_at-zero}
use Rattle.std.specs.Float.{NotNan}
use lib.Ieee.{is_nan}
use Rattle.sqlite_disk.specs.Disk.{MoreFaults}
use Rattle.sqlite_value.specs.Order.{Row, bytes, number}
use Rattle.sqlite_trees.specs.View.{View, IsStorable, HasCause}
use Rattle.sqlite_trees.specs.declared.error.StoreError.{StoreError}
use Rattle.sqlite_trees.specs.declared.error.StoreError.TheVariants.{OutOfMemory, Io, Corrupt, Full, Broken, Unstorable}
use Rattle.osc_model.specs.declared.resource.Resource.{Resource}
use Rattle.osc_store.specs.{format_value, row_of, Excuses}
use Rattle.osc_store.specs.Causes.{IsTooLong, WhyNotKept, told}

no_bytes : (f : Option ℕ) → length (bytes (format_value f)) ≡ 0
no_bytes None = refl
no_bytes (Some n) = refl

no_nan : (f : Option ℕ) → NotNan (number (format_value f))
unfolding is_nan
no_nan None = tt
no_nan (Some n) = tt

storable : (path : List ℕ) (resource : Resource) → 54 + length path + length resource.payload ≤ 10 ^ 9 → IsStorable 0 (row_of (path, resource))
unfolding is_nan
storable path resource short = record {
  typed = λ c set. absurd (omega (arith, bit_at-zero c));
  columns = omega arith;
  numbers = All-from_recursion (λ v. NotNan (number v)) (row_of (path, resource)) (tt, (no_nan resource.format, (tt, tt)));
  short = simp sum_by-cons (omega (arith, no_bytes resource.format));
}

pub too_long : (path : List ℕ) (resource : Resource) (row : Row) (reals : ℕ) → reals ≡ 0 → row ≡ row_of (path, resource) → ¬ IsStorable reals row → IsTooLong path (Some resource)
too_long path resource row reals none is never = elim (cases_lt (10 ^ 9) (54 + length path + length resource.payload)) [
  | inl long ↦ long
  | inr short ↦ absurd (never (rw (none, is) (storable path resource short)))
]

-- the cause of a call is one of all that it is in
pub excused : (v : View) (a b c d : ℕ) (Long Longer : Type 0) (e : StoreError) → v.is_broken ≡ false → a ≤ b → c ≤ d → (Long → Longer)
    → HasCause v (MoreFaults b c) Long e → Excuses (MoreFaults a d) Longer e
excused v a b c d Long Longer OutOfMemory sound p q more h = tt
excused v a b c d Long Longer Io sound p q more h = omega arith
excused v a b c d Long Longer Corrupt sound p q more h = omega arith
excused v a b c d Long Longer Full sound p q more h = omega arith
excused v a b c d Long Longer Broken sound p q more h = absurd (cc)
excused v a b c d Long Longer Unstorable sound p q more h = more h

pub on_ok_if : {X E : Type 0} (r : Result X E) (C P : Type 0) → (C → OnOk r P) → OnOk r (C → P)
on_ok_if (Ok x) C P f = f
on_ok_if (Err e) C P f = tt

-- the cause of a call is that of a change that isn't kept
pub told_why : (F L : Type 0) (e : StoreError) → Excuses F L e → WhyNotKept F L (told e)
told_why F L OutOfMemory h = tt
told_why F L Io h = h
told_why F L Corrupt h = h
told_why F L Full h = h
told_why F L Broken h = h
told_why F L Unstorable h = h
