use Rattle.std.proofs.Common.{◌≡◌, ◌≤◌}
use Rattle.osc_log.specs.{Tells}
use Rattle.osc_turn.specs.Running.{running}
use Rattle.osc_programs.specs.{Passes, Shown, Turns}
use Rattle.osc_programs.proofs.turns.turns_in.Given as goal

-- this number of turns was taken; what passed at the port is theirs, the log told of them, and what they changed is kept
abbrev pub invariant-loop : goal.invariant-loop
invariant-loop g l =
    (l.counter ≤ l.turns) × (turned : Shown)
    × Turns g.N.Node.acts g.N.Node.is_step g.N.Holding.held l.counter (running l.initial.kept.node l.initial.rhythm.pace.busy_since l.initial.rhythm.supply) turned
    (running l.kept.node l.rhythm.pace.busy_since l.rhythm.supply)
    × Passes g.P.Port.received g.P.Port.sent l.initial.port l.port turned.passed × Tells (g.L.Log.told l.initial.log) (g.L.Log.told l.log) turned.events
    × (g.K.KeepsSteps.keeps l.initial.kept.keeper l.initial.kept.node → g.K.KeepsSteps.keeps l.kept.keeper l.kept.node)
    × (g.K.KeepsSteps.faults l.initial.kept.keeper ≤ g.K.KeepsSteps.faults l.kept.keeper)
    × (g.K.KeepsSteps.trusted l.kept.keeper → g.K.KeepsSteps.trusted l.initial.kept.keeper)
    × (g.K.KeepsSteps.file l.kept.keeper ≡ g.K.KeepsSteps.file l.initial.kept.keeper)
