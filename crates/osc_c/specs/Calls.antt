-- Calls on handles.
use Rattle.std.specs.Prelude.{◌≡◌, ◌⊎◌, Option, Some, None, MatchOption, ℕ, ℤ, pos}
use Rattle.osc_c.specs.Outcome.{number_of}
use Rattle.osc_c.specs.declared.calls.outcome.Outcome.{Outcome}
use Rattle.osc_c.specs.declared.calls.round.Told.{Told}

-- a number, as a call answers it
abbrev pub Answers : ℤ → (Outcome → Type 0) → Type 0
Answers number Does = (outcome : Outcome) × (number ≡ pos (number_of outcome)) × Does outcome

-- Where nothing is held, it answers 33 and holds nothing. What is held goes on so, and is held then.
abbrev pub Calls : {A : Type 0} → Option A → ℤ → Option A → (A → Outcome → A → Type 0) → Type 0
Calls {A} old number new Does =
    MatchOption old ((number ≡ pos 33) × (new ≡ None)) (λ held. (after : A) × (new ≡ Some after) × Answers number (λ outcome. Does held outcome after))

-- The same of a call that only looks: what is held stays so.
abbrev pub Looks : {A : Type 0} → Option A → ℤ → Option A → (A → Outcome → Type 0) → Type 0
Looks old number new Does =
    MatchOption old ((number ≡ pos 33) × (new ≡ None)) (λ held. (new ≡ Some held) × Answers number (λ outcome. Does held outcome))

-- The same of a call that fills in a struct, where its size fits. Where it doesn't, it answers 34, whatever is held, and all stays.
abbrev pub LooksWhere : {A : Type 0} → Type 0 → Type 0 → Option A → ℤ → Option A → (A → Outcome → Type 0) → Type 0
LooksWhere Fits Stays old number new Does = (Fits × Looks old number new Does) ⊎ (¬ Fits × (number ≡ pos 34) × (new ≡ old) × Stays)

-- What is made is held, in the place of what was held; or nothing is made, for such a reason, and what was held is held.
abbrev pub Makes : {A : Type 0} → Option A → ℤ → Option A → (A → Type 0) → (Outcome → Type 0) → Type 0
Makes {A} old number new Is IsWhyNot = ((node : A) × (number ≡ pos 0) × (new ≡ Some node) × Is node) ⊎ (Answers number IsWhyNot × (new ≡ old))

-- what a call answers that tells a code, too: the number, and the code that is told then
pub record NumberAndCode : Type 0 where
  pub number : ℤ
  pub code : ℕ

-- The same of a call that tells a code, too, where something is held. Where nothing is, the code is as before.
abbrev pub Tells : {A : Type 0} → Option A → ℕ → NumberAndCode → Option A → (A → Told → A → Type 0) → Type 0
Tells {A} old before answer new Does =
    MatchOption old ((answer.number ≡ pos 33) × (new ≡ None) × (answer.code ≡ before))
    (λ held. (after : A) × (told : Told) × (new ≡ Some after) × (answer.number ≡ pos (number_of told.outcome)) × (answer.code ≡ told.code)
    × Does held told after)
