-- Calls on handles: what is promised of what is lent is promised of the call.
use Rattle.std.proofs.Common.{◌≡◌, ◌≢◌, ◌∙◌, IfErr, IfOk, Result, ℕ, ℤ, ap, inl, inr, nat_abs, pos, refl, subst, sym, arith}
use Rattle.std.specs.Borrow.{MutBor}
use Rattle.std.specs.Fn.{Called, CalledAtMut, Mut}
use Rattle.std.specs.declared.option.Option.{Option}
use Rattle.std.specs.declared.option.Option.TheVariants.{None, Some}
use Rattle.std.specs.declared.result.Result.TheVariants.{Err, Ok}
use Rattle.osc_c.specs.{number_of, Makes, Tells}
use Rattle.osc_c.specs.declared.calls.outcome.Outcome.{Outcome}
use Rattle.osc_c.specs.declared.calls.outcome.Outcome.TheVariants as which
use Rattle.osc_c.specs.declared.calls.round.Told.{Told}
use Rattle.osc_c.specs.Calls.{Calls, Looks}
use Rattle.osc_c.specs.Inner.Lending.{Lends, Puts}

module _ {A : Type 0} {old new : Option A} {outcome : Outcome} {held lent after : A} where
  pub lends : (Does : A → Outcome → A → Type 0) → Some held ≡ old → lent ≡ held → new ≡ Some after → Does lent outcome after → Lends old outcome new Does
  lends Does was is_lent now does = subst (λ (o : Option A). Lends o outcome new Does) was (after, now, subst (λ (h : A). Does h outcome after) is_lent does)

module _ {A : Type 0} {old new : Option A} {number : ℤ} {held lent after : A} where
  pub tells : (before code : ℕ) (Does : A → Told → A → Type 0) (told : Told)
      → Some held ≡ old → lent ≡ held → number ≡ pos (number_of told.outcome) → new ≡ Some after → code ≡ told.code → Does lent told after
      → Tells old before (record { number = number; code = code }) new Does
  tells before code Does told was is_lent is now coded does =
      subst (λ (o : Option A). Tells o before (record { number = number; code = code }) new Does) was (after, told, now, is, coded, subst (λ (h : A). Does h told after) is_lent does)

module _ {A : Type 0} {outcome : Outcome} {number : ℤ} (old new : Option A) (P : A → A → Type 0) where
  pub calls_by : (Does : A → Outcome → A → Type 0) → Lends old outcome new (λ x _ y. P x y) → number ≡ pos (number_of outcome)
      → ((x y : A) → P x y → Does x outcome y) → Calls old number new Does
  calls_by Does lent is does = by old lent where
    by : (o : Option A) → Lends o outcome new (λ x _ y. P x y) → Calls o number new Does
    by None (nothing, none) = (subst (λ (o : Outcome). number ≡ pos (number_of o)) nothing is, none)
    by (Some x) (y, now, did) = (y, now, (outcome, is, does x y did))

  pub looks_by : (Does : A → Outcome → Type 0) → Lends old outcome new (λ x _ y. P x y) → number ≡ pos (number_of outcome)
      → ((x y : A) → P x y → (y ≡ x) × Does x outcome) → Looks old number new Does
  looks_by Does lent is does = by old lent where
    by : (o : Option A) → Lends o outcome new (λ x _ y. P x y) → Looks o number new Does
    by None (nothing, none) = (subst (λ (o : Outcome). number ≡ pos (number_of o)) nothing is, none)
    by (Some x) (y, now, did) = let d = does x y did in (now ∙ ap (λ (a : A). Some a) d.0, (outcome, is, d.1))

  pub tells_by : {before code : ℕ} (Does : A → Told → A → Type 0) → Lends old outcome new (λ x _ y. P x y) → number ≡ pos (number_of outcome) → (old ≡ None → code ≡ before)
      → ((x y : A) → P x y → (told : Told) × (outcome ≡ told.outcome) × (code ≡ told.code) × Does x told y) → Tells old before (record { number = number; code = code }) new Does
  tells_by {before} {code} Does lent is stays does = by old lent stays where
    by : (o : Option A) → Lends o outcome new (λ x _ y. P x y) → (o ≡ None → code ≡ before) → Tells o before (record { number = number; code = code }) new Does
    by None (nothing, none) stays = (subst (λ (o : Outcome). number ≡ pos (number_of o)) nothing is, none, stays refl)
    by (Some x) (y, now, did) stays = let d = does x y did in (y, d.0, now, subst (λ (o : Outcome). number ≡ pos (number_of o)) d.1 is, d.2, d.3)

module _ {A F : Type 0} {outcome : Outcome} {number : ℤ} (old new : Option A) (g : Mut F (MutBor A × Unit {0}) (Outcome × (MutBor A × Unit {0}))) (f f' : F) where
  pub calls_of : (Does : A → Outcome → A → Type 0) → Lends old outcome new (λ x r y. CalledAtMut g f x r f' y) → number ≡ pos (number_of outcome)
      → ((s l : MutBor A) → Called g f (s, tt) (outcome, (l, tt)) f' → Does s.now outcome l.now) → Calls old number new Does
  calls_of Does lent is does = calls_by old new (λ x y. CalledAtMut g f x outcome f' y) Does lent is (λ x y did.
      subst (λ (a : A). Does a outcome y) did.shows (subst (λ (b : A). Does did.shown.now outcome b) did.leaves (does did.shown did.left did.called)))

  pub looks_of : (Does : A → Outcome → Type 0) → Lends old outcome new (λ x r y. CalledAtMut g f x r f' y) → number ≡ pos (number_of outcome)
      → ((s l : MutBor A) → Called g f (s, tt) (outcome, (l, tt)) f' → (l.now ≡ s.now) × Does s.now outcome) → Looks old number new Does
  looks_of Does lent is does = looks_by old new (λ x y. CalledAtMut g f x outcome f' y) Does lent is (λ x y did.
      let d = does did.shown did.left did.called in
      (sym did.leaves ∙ d.0 ∙ did.shows, subst (λ (a : A). Does a outcome) did.shows d.1))

  pub tells_of : {before code : ℕ} (Does : A → Told → A → Type 0) → Lends old outcome new (λ x r y. CalledAtMut g f x r f' y) → number ≡ pos (number_of outcome) → (old ≡ None → code ≡ before)
      → ((s l : MutBor A) → Called g f (s, tt) (outcome, (l, tt)) f' → (told : Told) × (outcome ≡ told.outcome) × (code ≡ told.code) × Does s.now told l.now)
      → Tells old before (record { number = number; code = code }) new Does
  tells_of Does lent is stays does = tells_by old new (λ x y. CalledAtMut g f x outcome f' y) Does lent is stays (λ x y did.
      let d = does did.shown did.left did.called in
      (d.0, d.1, d.2, subst (λ (a : A). Does a d.0 y) did.shows (subst (λ (b : A). Does did.shown.now d.0 b) did.leaves d.3)))

module _ {A : Type 0} (old new : Option A) (outcome why : Outcome) (P : A → A → Type 0) where
  pub never_by : which.Nothing ≢ why → Lends old outcome new (λ x _ y. P x y) → ((x y : A) → P x y → outcome ≢ why) → outcome ≢ why
  never_by other lent does = by old lent where
    by : (o : Option A) → Lends o outcome new (λ x _ y. P x y) → outcome ≢ why
    by None (nothing, none) is = other (sym nothing ∙ is)
    by (Some x) (y, now, did) is = does x y did is

-- ---- calls that make something

module _ {A : Type 0} {number : ℤ} (old new : Option A) (outcome : Outcome) (made : Result A Outcome) (Is : A → Type 0) (IsWhyNot : Outcome → Type 0) where
  pub makes_by : Puts made old outcome new → number ≡ pos (number_of outcome) → IfOk made Is → IfErr made IsWhyNot → ((node : A) → Is node → IsWhyNot which.NoMemory) → Makes old number new Is IsWhyNot
  makes_by puts number_is is why memory = by made puts is why where
    by : (m : Result A Outcome) → Puts m old outcome new → IfOk m Is → IfErr m IsWhyNot → Makes old number new Is IsWhyNot
    by (Ok node) (inl (done, now)) is why = inl (node, subst (λ (o : Outcome). number ≡ pos (number_of o)) done number_is, now, is)
    by (Ok node) (inr (none, now)) is why = inr ((which.NoMemory, subst (λ (o : Outcome). number ≡ pos (number_of o)) none number_is, memory node is), now)
    by (Err e) (same, now) is why = inr ((e, subst (λ (o : Outcome). number ≡ pos (number_of o)) same number_is, why), now)

-- ---- the number 14

numbered : (told : Outcome) → number_of told ≡ 14 → told ≡ which.TooLong
numbered which.TooLong is = refl
numbered which.Done is = absurd (omega (arith, is))
numbered which.TooShort is = absurd (omega (arith, is))
numbered which.NoMemory is = absurd (omega (arith, is))
numbered which.Busy is = absurd (omega (arith, is))
numbered which.Exhausted is = absurd (omega (arith, is))
numbered which.NoContext is = absurd (omega (arith, is))
numbered which.BadScope is = absurd (omega (arith, is))
numbered which.Nothing is = absurd (omega (arith, is))
numbered which.BadArgument is = absurd (omega (arith, is))
numbered which.Lost is = absurd (omega (arith, is))
numbered which.Unverified is = absurd (omega (arith, is))
numbered which.NotNow is = absurd (omega (arith, is))
numbered which.Refused is = absurd (omega (arith, is))
numbered which.NotKept is = absurd (omega (arith, is))

pub apart : {number : ℤ} (told : Outcome) → number ≡ pos (number_of told) → told ≢ which.TooLong → number ≢ pos 14
apart told is other at = other (numbered told (ap (λ (z : ℤ). nat_abs z) (sym is ∙ at)))
