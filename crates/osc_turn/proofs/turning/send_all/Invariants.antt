-- The datagrams so far were sent, and a fault is told where one of the sends failed.
use Rattle.std.proofs.Common.{◌≡◌, take}
use Rattle.osc_turn.specs.{CountsFault, grown}
use Rattle.osc_turn.proofs.turning.send_all.Given as goal

abbrev pub invariant-loop-datagram : goal.invariant-loop-datagram
invariant-loop-datagram g l = record {
  sent : g.P.Port.sent l.port ≡ grown (g.P.Port.sent l.initial.port) (take l.datagram-index l.datagrams);
  not_received : g.P.Port.received l.port ≡ g.P.Port.received l.initial.port;
  fault : CountsFault l.fault (g.P.Port.failures l.initial.port) (g.P.Port.failures l.port);
}
