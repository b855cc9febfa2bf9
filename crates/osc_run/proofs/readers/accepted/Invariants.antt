use Rattle.std.proofs.Common.{◌≡◌, take, reverse}
use Rattle.osc_run.specs.{acceptances}
use Rattle.osc_run.proofs.readers.accepted.Given as goal

-- what the steps so far accepted
abbrev pub invariant-loop-step : goal.invariant-loop-step
invariant-loop-step l = l.all.items ≡ acceptances (reverse (take l.step-index l.steps))
