use Rattle.std.proofs.Common.{◌≡◌, drop}
use Rattle.std.specs.Prelude.{fold}
use Rattle.osc_diagram.specs.Keys.{keys_of, with_seal}
use Rattle.osc_diagram.proofs.keys.keys_of.Given as goal

-- the lines so far, and those of the steps that are left
abbrev pub invariant-loop-step : goal.invariant-loop-step
invariant-loop-step l = fold (λ lines step. with_seal lines step.notes.seals) l.lines.items (drop l.step-index l.steps) ≡ keys_of l.steps
