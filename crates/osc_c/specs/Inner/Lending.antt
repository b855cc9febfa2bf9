-- What is lent out of a handle, and what is put into one.
use Rattle.std.specs.Prelude.{◌≡◌, ◌⊎◌, ℕ, Option, Some, None, MatchOption, MatchResult, Result}
use Rattle.osc_c.specs.declared.calls.outcome.Outcome.{Outcome}
use Rattle.osc_c.specs.declared.calls.outcome.Outcome.TheVariants.{Done, NoMemory, Nothing}
use Rattle.osc_c.specs.declared.calls.round.Told.{Told}

-- Where nothing is held, it is `Nothing`, and nothing is held. What is held is lent, and is held then as it is left.
abbrev pub Lends : {A : Type 0} → Option A → Outcome → Option A → (A → Outcome → A → Type 0) → Type 0
Lends {A} old outcome new Does =
    MatchOption old ((outcome ≡ Nothing) × (new ≡ None)) (λ held. (after : A) × (new ≡ Some after) × Does held outcome after)

-- What was made is held, in the place of what was held. Where nothing was made, or without memory for it, what was held is held.
abbrev pub Puts : {A : Type 0} → Result A Outcome → Option A → Outcome → Option A → Type 0
Puts made old outcome new =
    MatchResult made (λ node. ((outcome ≡ Done) × (new ≡ Some node)) ⊎ ((outcome ≡ NoMemory) × (new ≡ old))) (λ why. (outcome ≡ why) × (new ≡ old))

-- The outcome and the code are those of what is told, and it is told so.
abbrev pub IsTold : Outcome → ℕ → (Told → Type 0) → Type 0
IsTold outcome code Does = (told : Told) × (outcome ≡ told.outcome) × (code ≡ told.code) × Does told
