-- Turns that make no step.
use Rattle.std.specs.Prelude.{◌≡◌, ◌<◌, ◌∷◌, [], ℕ, List, Option, Some}
use Rattle.osc_turn.specs.Ports.{Received, grown}
use Rattle.osc_turn.specs.declared.error.TurnError.{TurnError}
use Rattle.osc_turn.specs.declared.error.TurnError.TheVariants.{Port, Memory}

-- the receive failed
pub record HasFailed (received received_after : Option (List (Option Received))) (failures failures_after : ℕ) : Type 0 where
  pub nothing : received_after ≡ received
  pub counted : failures < failures_after

-- no call failed; what came is lost
pub record HasLost (received received_after : Option (List (Option Received))) (failures failures_after : ℕ) : Type 0 where
  pub came : Received
  pub lost : received_after ≡ grown received (Some came ∷ [])
  pub not_counted : failures_after ≡ failures

abbrev pub IsRefusedBy : TurnError → Option (List (Option Received)) → Option (List (Option Received)) → ℕ → ℕ → Type 0
IsRefusedBy (Port fault) received received_after failures failures_after = HasFailed received received_after failures failures_after
IsRefusedBy Memory received received_after failures failures_after = HasLost received received_after failures failures_after
