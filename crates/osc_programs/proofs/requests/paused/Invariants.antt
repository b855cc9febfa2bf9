use Rattle.osc_programs.specs.{Passed, Passes}
use Rattle.osc_programs.specs.Staying.{Idles}
use Rattle.osc_programs.proofs.requests.paused.Given as goal

-- the turns so far, and what passed in them
abbrev pub invariant-loop : goal.invariant-loop
invariant-loop g l =
    (passed : Passed)
    × Idles (record { node = l.initial.talking.client; busy = l.initial.talking.pace.busy_since; supply = l.initial.talking.supply }) passed
    (record { node = l.talking.client; busy = l.talking.pace.busy_since; supply = l.talking.supply })
    × Passes g.P.Port.received g.P.Port.sent l.initial.port l.port passed
