use Rattle.std.proofs.Common.{◌≡◌, map, take, reverse}
use Rattle.osc_run.specs.{history}
use Rattle.osc_run.proofs.readers.served.Given as goal

-- what the steps so far served
abbrev pub invariant-loop-step : goal.invariant-loop-step
invariant-loop-step l = map (λ entry. entry.now) l.all.items ≡ history (reverse (take l.step-index l.steps))
