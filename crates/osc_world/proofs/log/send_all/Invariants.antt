use Rattle.std.proofs.Common.{◌≡◌, ◌++◌, ◌-◌, ◌≤◌, length, map}
use Rattle.std.specs.Prelude.{vec_len, vec_capacity}
use Rattle.osc_world.specs.{sent_from}
use Rattle.osc_world.proofs.log.send_all.Given as goal

abbrev pub invariant-loop-to : goal.invariant-loop-to
invariant-loop-to l = record {
  moves : l.sent.items ++ map (sent_from l.at) l.to-iterator.rest.items ≡ l.fn.sent.items ++ map (sent_from l.at) l.fn.out.items;
  room : length l.to-iterator.rest.items ≤ vec_capacity l.sent - vec_len l.sent;
}
