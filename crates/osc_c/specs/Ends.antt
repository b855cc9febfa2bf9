-- How calls end whose moment is out of its range, or for which there is no memory: all stays as it was.
use Rattle.std.specs.Prelude.{◌≡◌, ℕ, ◌<◌, ◌^◌, ◌⊎◌, Bool, true, false}
use Rattle.osc_model.specs.declared.node.Moment.{Moment}
use Rattle.osc_c.specs.declared.calls.outcome.Outcome.{Outcome}
use Rattle.osc_c.specs.declared.calls.outcome.Outcome.TheVariants.{BadArgument, Done, Lost, NoMemory}

-- it isn't done, for this reason, and nothing changes
abbrev pub Stays : {A : Type 0} → Outcome → A → Outcome → A → Type 0
Stays why old outcome new = (outcome ≡ why) × (new ≡ old)

-- it is no moment, and so nothing changes
abbrev pub IsNoMoment : {A : Type 0} → ℕ → A → Outcome → A → Type 0
IsNoMoment ms old outcome new = (ms < 2 ^ 63 → ⊥) × Stays BadArgument old outcome new

-- It is done so; or it takes memory, of which there was none, and nothing changes.
abbrev pub Ends : {A : Type 0} → A → Outcome → A → Type 0 → Type 0 → Type 0
Ends old outcome new Takes Does = ((outcome ≡ Done) × Does) ⊎ (Stays NoMemory old outcome new × Takes)

-- So at this moment; or it is no moment, and nothing changes.
abbrev pub At : {A : Type 0} → ℕ → A → Outcome → A → (Moment → Type 0) → (Moment → Type 0) → Type 0
At ms old outcome new Takes Does = ((now : Moment) × (now.ms ≡ ms) × Ends old outcome new (Takes now) (Does now)) ⊎ IsNoMoment ms old outcome new

-- what is due is done, or what should have gone out was lost for lack of memory
abbrev pub done_or_lost : Bool → Outcome
done_or_lost false = Done
done_or_lost true = Lost

-- What is due is done, and whether what should have gone out was lost.
abbrev pub IsDue : Outcome → (Bool → Type 0) → Type 0
IsDue outcome Does = (lost : Bool) × (outcome ≡ done_or_lost lost) × Does lost

-- So at this moment, whatever memory there is; or it is no moment, and nothing changes.
abbrev pub DueAt : {A : Type 0} → ℕ → A → Outcome → A → (Moment → Bool → Type 0) → Type 0
DueAt ms old outcome new Does = ((now : Moment) × (now.ms ≡ ms) × IsDue outcome (Does now)) ⊎ IsNoMoment ms old outcome new
