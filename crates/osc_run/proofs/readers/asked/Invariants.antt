use Rattle.std.proofs.Common.{◌≡◌, take, reverse}
use Rattle.osc_run.specs.{questions}
use Rattle.osc_run.proofs.readers.asked.Given as goal

-- what the steps so far asked
abbrev pub invariant-loop-step : goal.invariant-loop-step
invariant-loop-step l = l.all.items ≡ questions (reverse (take l.step-index l.steps))
