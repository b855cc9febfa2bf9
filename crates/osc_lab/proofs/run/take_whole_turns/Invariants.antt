use Rattle.std.proofs.Common.{◌≤◌}
use Rattle.osc_lab.specs.Inner.Telling.{Tells, live, network}
use Rattle.osc_lab.specs.{WholeTurns, learnt}
use Rattle.osc_lab.proofs.run.take_whole_turns.Given as goal

-- this number of whole turns was taken, and what clients learnt by them is told
abbrev pub invariant-loop : goal.invariant-loop
invariant-loop g l = record {
  most : l.counter ≤ l.turns;
  take : WholeTurns (network g.P.Port.received g.P.Port.sent l.who.cast.addresses.now) l.who.number (live l.initial.nodes l.initial.means) l.counter (live l.nodes l.means);
  told : Tells l.who.cast.clients.now (learnt l.initial.nodes.notes.steps) (learnt l.nodes.notes.steps) (g.O.Write.contents l.initial.writer) (g.O.Write.contents l.writer);
}
