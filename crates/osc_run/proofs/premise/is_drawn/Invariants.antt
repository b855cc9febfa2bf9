use Rattle.std.proofs.Common.{take}
use Rattle.osc_run.specs.{IsDrawn}
use Rattle.osc_run.proofs.premise.is_drawn.Given as goal

-- none of the steps so far drew it
abbrev pub invariant-loop-step : goal.invariant-loop-step
invariant-loop-step l = IsDrawn (take l.step-index l.steps) l.nonce → ⊥
