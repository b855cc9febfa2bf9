use Rattle.std.proofs.Common.{◌≡◌}
use Rattle.osc_world.specs.declared.nodes.Whose.TheVariants as whose
use Rattle.osc_lab.specs.Inner.Telling.{live, network}
use Rattle.osc_lab.specs.{Turns, learnt}
use Rattle.osc_lab.proofs.nodes.LabNodes.proxy_turns.Given as goal

-- this number of proxies took their turns, and no client learnt anything
abbrev pub invariant-loop-number : goal.invariant-loop-number
invariant-loop-number g l = record {
  take : Turns (network g.P.Port.received g.P.Port.sent l.cast.addresses.now) whose.Proxy (live l.initial.self l.initial.means) l.number l.busy (live l.self l.means);
  learns : learnt l.self.notes.steps ≡ learnt l.initial.self.notes.steps;
}
