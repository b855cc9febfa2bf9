use Rattle.std.proofs.Common.{◌≡◌, ◌-◌, ◌≤◌}
use Rattle.osc_turn.specs.Time.{ms_of}
use Rattle.osc_programs.specs.{Passed, Passes}
use Rattle.osc_programs.proofs.Talking.{GoOn}
use Rattle.osc_programs.proofs.asking.wait.Given as goal

-- the outcome of the turns that are left is that of all, after what passed at the port so far, the moment is the client's time, and its end stays
abbrev pub invariant-loop-taken : goal.invariant-loop-taken
invariant-loop-taken g l =
    (l.taken ≤ l.most) × (passed : Passed) × Passes g.P.Port.received g.P.Port.sent l.initial.port l.port passed
    × GoOn l.until l.most (l.most - l.taken) (record { node = l.initial.talking.client; busy = l.initial.talking.pace.busy_since; supply = l.initial.talking.supply })
    (record { node = l.talking.client; busy = l.talking.pace.busy_since; supply = l.talking.supply }) passed
    × (l.now.ms ≡ ms_of l.talking.supply.time)
    × (l.left.until ≡ l.initial.left.until)
