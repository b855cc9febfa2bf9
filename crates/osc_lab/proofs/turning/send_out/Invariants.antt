use Rattle.std.proofs.Common.{◌≡◌, map, take}
use Rattle.osc_turn.specs.{grown}
use Rattle.osc_lab.specs.{posted}
use Rattle.osc_lab.proofs.turning.send_out.Given as goal

-- the datagrams so far were handed to the port
abbrev pub invariant-loop-datagram : goal.invariant-loop-datagram
invariant-loop-datagram g l = record {
  sent : g.P.Port.sent l.port ≡ grown (g.P.Port.sent l.initial.port) (map (posted l.addresses) (take l.datagram-index l.out));
  not_received : g.P.Port.received l.port ≡ g.P.Port.received l.initial.port;
}
