-- The numbers of the refusals.
use Rattle.std.specs.Prelude.{ℕ}
use Rattle.osc_model.specs.Refusals as refusal
use Rattle.osc_turn.specs.declared.error.TurnError.{TurnError}
use Rattle.osc_turn.specs.declared.error.TurnError.TheVariants.{Port, Memory}

abbrev pub turn_number : TurnError → ℕ
turn_number (Port fault) = refusal.port_fault
turn_number Memory = refusal.memory
