use Rattle.std.proofs.Common.{◌≡◌, ◌≤◌, false, List, Option, length}
use Rattle.osc_turn.specs.{Received, any_changed, running}
use Rattle.osc_turn.specs.Inner.Making.{HasMade}
use Rattle.osc_turn.specs.Running.{Running}
use Rattle.osc_turn.proofs.kept.turning.more_steps.Given as goal

-- the batch has the steps so far, all their changes are written, and nothing was sent
abbrev pub invariant-loop : goal.invariant-loop
invariant-loop g l = record {
  long : length l.batch.steps ≡ l.counter;
  made : (first : Running g.row.N.Denot) (received : Option (List (Option Received)))
      → HasMade g.N.Node.acts g.N.Node.is_step l.initial.batch.at first l.initial.batch (running l.initial.kept.node l.initial.pace.busy_since l.initial.supply) received (g.P.Port.received l.initial.port)
      → HasMade g.N.Node.acts g.N.Node.is_step l.initial.batch.at first l.batch (running l.kept.node l.pace.busy_since l.supply) received (g.P.Port.received l.port);
  at : l.batch.at ≡ l.initial.batch.at;
  no_fault : g.P.Port.failures l.port ≡ g.P.Port.failures l.initial.port;
  not_sent : g.P.Port.sent l.port ≡ g.P.Port.sent l.initial.port;
  written : (begun : g.row.N.Denot) → g.K.KeepsSteps.writes l.initial.kept.keeper begun l.initial.kept.node → g.K.KeepsSteps.writes l.kept.keeper begun l.kept.node;
  nothing : any_changed l.batch.steps ≡ false → l.kept.keeper ≡ l.initial.kept.keeper;
  more : any_changed l.batch.steps ≡ false → any_changed l.initial.batch.steps ≡ false;
  counts : g.K.KeepsSteps.faults l.initial.kept.keeper ≤ g.K.KeepsSteps.faults l.kept.keeper;
  trust : g.K.KeepsSteps.trusted l.kept.keeper → g.K.KeepsSteps.trusted l.initial.kept.keeper;
  file : g.K.KeepsSteps.file l.kept.keeper ≡ g.K.KeepsSteps.file l.initial.kept.keeper;
}
