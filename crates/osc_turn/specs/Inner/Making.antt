-- A turn under way.
use Rattle.std.specs.Prelude.{◌≡◌, ◌<◌, ◌≤◌, ◌∷◌, [], ℕ, Bool, false, List, IsSome, Option, Some, None, length, map}
use Rattle.osc_model.specs.declared.node.Moment.{Moment}
use Rattle.osc_model.specs.declared.step.Step.{Step}
use Rattle.osc_run.specs.{Cause}
use Rattle.osc_turn.specs.Ports.{Received, grown}
use Rattle.osc_turn.specs.Running.{BatchState, EndsBy, LosesLast, Made, MakesMore, MakesStep, MakesTurn, Running, gave_in, most_steps, stepped_of, ticks_at}
use Rattle.osc_turn.specs.declared.error.TurnError.{TurnError}
use Rattle.osc_turn.specs.declared.error.TurnError.TheVariants.{Port, Memory}
use Rattle.osc_turn.specs.declared.turning.Stepped.{Stepped}

module _ {N : Type 0} (acts : N → Moment → Bool) (is_step : N → Cause → Step → N → Type 0) (now : Moment) where
  -- the first step of a turn, and what the port gave for it
  pub record MakesFirst (old : Running N) (stepped : Stepped) (new : Running N) (received received_after : Option (List (Option Received))) : Type 0 where
    pub made : Made
    pub is : stepped_of made ≡ stepped
    pub makes : MakesStep acts is_step now old made new
    pub came_in : received_after ≡ grown received (gave_in (ticks_at acts is_step now old) (made ∷ []) None)

  -- one step more, of what waited
  pub record MakesNext (old : Running N) (stepped : Stepped) (new : Running N) (received received_after : Option (List (Option Received))) : Type 0 where
    pub came : Received
    pub made : Made
    pub is : stepped_of made ≡ stepped
    pub of_it : made.came ≡ Some came
    pub busy : IsSome old.busy
    pub awake : ticks_at acts is_step now old ≡ false
    pub makes : MakesStep acts is_step now old made new
    pub came_in : received_after ≡ grown received (Some came ∷ [])

  -- what came has no memory for its step, and is lost
  pub record Loses (old new : Running N) (received received_after : Option (List (Option Received))) : Type 0 where
    pub lost : Received
    pub loses : LosesLast acts is_step now old new
    pub came_in : received_after ≡ grown received (Some lost ∷ [])

  -- Why the first step isn't made: the receive failed, or there was no memory.
  abbrev pub FirstFails : TurnError → Running N → Running N → Option (List (Option Received)) → Option (List (Option Received)) → ℕ → ℕ → Type 0
  FirstFails (Port fault) old new received received_after failures failures_after =
      (ticks_at acts is_step now old ≡ false) × (new.node ≡ old.node) × (new.busy ≡ old.busy) × (received_after ≡ received) × (failures < failures_after)
  FirstFails Memory old new received received_after failures failures_after = Loses old new received received_after × (failures_after ≡ failures)

  -- Why one more isn't.
  abbrev pub NextFails : TurnError → Running N → Running N → Option (List (Option Received)) → Option (List (Option Received)) → ℕ → ℕ → Type 0
  NextFails (Port fault) old new received received_after failures failures_after = (new ≡ old) × (received_after ≡ received) × (failures < failures_after)
  NextFails Memory old new received received_after failures failures_after =
      IsSome old.busy × Loses old new received received_after × (failures_after ≡ failures)

  -- the steps of a turn so far, from its first step on, and what the port gave for them
  pub record HasMade (first : Running N) (batch : BatchState) (new : Running N) (received received_after : Option (List (Option Received))) : Type 0 where
    pub made : List Made
    pub makes : MakesMore acts is_step now first made new
    pub is_batch : batch ≡ record { at = now; steps = map stepped_of made }
    pub came_in : received_after ≡ grown received (gave_in (ticks_at acts is_step now first) made None)

  -- all steps of a turn, what was lost, if anything was, and what the port gave for them
  pub record HasTaken (first : Running N) (batch : BatchState) (new : Running N) (received received_after : Option (List (Option Received))) : Type 0 where
    pub made : List Made
    pub lost : Option Received
    pub makes : MakesTurn acts is_step now first made lost new
    pub few : length made ≤ most_steps
    pub is_batch : batch ≡ record { at = now; steps = map stepped_of made }
    pub came_in : received_after ≡ grown received (gave_in (ticks_at acts is_step now first) made lost)

  -- the same, and why it took nothing more
  pub record HasEnded (first : Running N) (ended : Option TurnError) (batch : BatchState) (new : Running N)
      (received received_after : Option (List (Option Received))) (failures failures_after : ℕ) : Type 0 where
    pub taken : HasTaken first batch new received received_after
    pub ends : EndsBy ended taken.lost failures failures_after
