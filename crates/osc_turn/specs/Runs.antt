-- The steps of a node, one after another.
use Rattle.std.specs.Prelude.{List, [], ◌∷◌, map, reverse}
use Rattle.osc_model.specs.StepNotes.{StepNotes}
use Rattle.osc_model.specs.declared.node.Draw.{Draw}
use Rattle.osc_model.specs.declared.node.Moment.{Moment}
use Rattle.osc_model.specs.declared.step.Step.{Step}
use Rattle.osc_run.specs.{Cause, Noted}
use Rattle.osc_turn.specs.Ports.{cause_of}
use Rattle.osc_turn.specs.Running.{Made}

module _ {N : Type 0} (is_step : N → Cause → Step → N → Type 0) where
  -- each at some moment and with some draw, of what came for it
  pub data AreSteps : N → List Made → N → Type 0 where
    none : (node : N) → AreSteps node [] node
    more : (first between last : N) (made : Made) (rest : List Made) (now : Moment) (draw : Draw)
        → is_step first (cause_of now draw made.came) made.step between → AreSteps between rest last → AreSteps first (made ∷ rest) last

-- what a run notes of them, the newest first
abbrev pub noted_by : (StepNotes → Noted) → List Made → List Noted
noted_by by made = reverse (map (λ one. by one.step.notes) made)
