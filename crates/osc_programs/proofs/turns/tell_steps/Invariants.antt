use Rattle.std.proofs.Common.{take}
use Rattle.osc_log.specs.{Tells}
use Rattle.osc_programs.specs.Turning.{of_steps}
use Rattle.osc_programs.proofs.turns.tell_steps.Given as goal

-- the log told of the steps so far
abbrev pub invariant-loop-stepped : goal.invariant-loop-stepped
invariant-loop-stepped g l = Tells (g.L.Log.told l.initial.log) (g.L.Log.told l.log) (of_steps l.now (g.N.Holding.held l.node) (take l.stepped-index l.steps))
