-- The steps' datagrams so far were sent, and a fault is told where one of the sends failed.
use Rattle.std.proofs.Common.{◌≡◌, take}
use Rattle.std.specs.List.{flat_map}
use Rattle.osc_turn.specs.{CountsFault, grown}
use Rattle.osc_turn.proofs.kept.turning.send_steps.Given as goal

abbrev pub invariant-loop-stepped : goal.invariant-loop-stepped
invariant-loop-stepped g l = record {
  sent : g.P.Port.sent l.port ≡ grown (g.P.Port.sent l.initial.port) (flat_map (λ stepped. stepped.step.out) (take l.stepped-index l.steps));
  not_received : g.P.Port.received l.port ≡ g.P.Port.received l.initial.port;
  fault : CountsFault l.fault (g.P.Port.failures l.initial.port) (g.P.Port.failures l.port);
}
