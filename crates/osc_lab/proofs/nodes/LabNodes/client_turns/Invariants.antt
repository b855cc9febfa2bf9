use Rattle.osc_world.specs.declared.nodes.Whose.TheVariants as whose
use Rattle.osc_lab.specs.Inner.Telling.{Tells, live, network}
use Rattle.osc_lab.specs.{Turns, learnt}
use Rattle.osc_lab.proofs.nodes.LabNodes.client_turns.Given as goal

-- this number of clients took their turns, and what they learnt is told
abbrev pub invariant-loop-number : goal.invariant-loop-number
invariant-loop-number g l = record {
  take : Turns (network g.P.Port.received g.P.Port.sent l.cast.addresses.now) whose.Client (live l.initial.self l.initial.means) l.number l.busy (live l.self l.means);
  told : Tells l.cast.clients.now (learnt l.initial.self.notes.steps) (learnt l.self.notes.steps) (g.O.Write.contents l.initial.writer) (g.O.Write.contents l.writer);
}
