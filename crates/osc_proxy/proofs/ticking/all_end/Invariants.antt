use Rattle.std.proofs.Common.{◌≡◌, ◌+◌, ◌++◌, ◌≤◌, true, [], List, vec_len}
use Rattle.std.specs.Prelude.{if◌then◌else◌, vec_capacity}
use Rattle.osc_model.specs.declared.step.Datagram.{Datagram}
use Rattle.osc_message.specs.{AreSendable}
use Rattle.osc_proxy.specs.{count, AllEnd}
use Rattle.osc_proxy.specs.State.{State}
use Rattle.osc_proxy.specs.declared.targets.Target.{Target}
use Rattle.osc_proxy.proofs.ticking.all_end.Given as goal

-- what ended so far, and what ends from here on, end one after the other
abbrev pub invariant-loop : goal.invariant-loop
invariant-loop l = record {
  so_far : List Datagram;
  sent : l.out.items ≡ l.fn.out.items ++ (if l.room then so_far else []);
  fits : AreSendable so_far;
  ends : (targets : List Target) (later : List Datagram) (last : State)
      → AllEnd l.tick.at l.tick.draw.now l.tick.given_up.now (record { targets = targets; exchanges = l.exchanges; endpoint = l.endpoint }) later last
      → AllEnd l.tick.at l.tick.draw.now l.tick.given_up.now (record { targets = targets; exchanges = l.fn.exchanges; endpoint = l.fn.endpoint }) (so_far ++ later) last;
  places : l.room ≡ true → vec_len l.out + count l.exchanges ≤ vec_capacity l.out;
  count : count l.exchanges + l.counter ≡ count l.fn.exchanges;
}
