-- What a server does for each cause of a step: one step of a run, and what the table of its cases gives.
use Rattle.std.specs.Prelude.{Bool, false, []}
use Rattle.osc_model.specs.declared.node.Moment.{Moment}
use Rattle.osc_model.specs.declared.step.Step.{Step}
use Rattle.osc_message.specs.{fresh_with}
use Rattle.osc_ccm.specs.{Sealings}
use Rattle.osc_run.specs.{Cause, Came, Due, moment_of, ServerStep}
use Rattle.osc_server.specs.Hearing.{Hears, Ticks}
use Rattle.osc_server.specs.State.{State, core}

-- nothing that a server sends is ever due again
abbrev pub acts : State → Moment → Bool
acts state now = false

-- it starts again: it forgets its contexts and what it heard
abbrev pub again : State → State
again old = record old { desk = record old.desk { table = [] }; endpoint = fresh_with old.endpoint.pace.more }

-- `is_sealing algorithm` is the relation of the algorithm's cipher
module _ (is_sealing : Sealings) where
  abbrev pub Makes : State → Cause → Step → State → Type 0
  Makes old (Came came) step new = Hears is_sealing old came step new
  Makes old (Due now draw) step new = Ticks old now step new

  pub record IsStep (old : State) (cause : Cause) (step : Step) (new : State) : Type 0 where
    pub makes : Makes old cause step new
    pub kind : ServerStep (core old) (moment_of cause) step.notes (core new)
