-- What holds of a turn of which nothing was sent, by why that is.
use Rattle.std.specs.Prelude.{⊤}
use Rattle.osc_store.specs.declared.error.KeepError.{KeepError}
use Rattle.osc_turn.specs.declared.error.TurnError.TheVariants.{Port, Memory}
use Rattle.osc_turn.specs.declared.kept.error.Unsent.{Unsent}
use Rattle.osc_turn.specs.declared.kept.error.Unsent.TheVariants.{NoMoment, NoStep, NotKept}

-- where no clock could be read
abbrev pub IfNoMoment : Type 0 → Unsent → Type 0
IfNoMoment holds (NoMoment error) = holds
IfNoMoment holds other = ⊤

-- where there was no memory for its first step
abbrev pub IfLost : Type 0 → Unsent → Type 0
IfLost holds (NoStep Memory) = holds
IfLost holds other = ⊤

-- where its first receive failed
abbrev pub IfFailed : Type 0 → Unsent → Type 0
IfFailed holds (NoStep (Port fault)) = holds
IfFailed holds other = ⊤

-- where what a step changed isn't kept
abbrev pub IfNotKept : (KeepError → Type 0) → Unsent → Type 0
IfNotKept holds (NotKept error) = holds error
IfNotKept holds other = ⊤
