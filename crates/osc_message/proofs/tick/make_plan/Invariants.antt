use Rattle.std.proofs.Common.{◌≡◌, ◌+◌, ◌++◌, ◌≤◌, Some, length, take, drop, vec_len, vec_capacity, IfSome}
use Rattle.std.specs.List.{filter_map}
use Rattle.osc_message.specs.{messages, dues, dues_of, datagram_of, given_up_of, tick_sends, tick_gives_up}
use Rattle.osc_message.proofs.tick.make_plan.Given as goal

abbrev pub invariant-loop-index : goal.invariant-loop-index
invariant-loop-index l =
    let rest = dues l.pace l.now (messages l.all) (messages (take l.index l.all)) (messages (drop l.index l.all)) in
    record {
      dues : l.dues.items ++ filter_map (λ pair. Some pair.1) rest ≡ filter_map (λ pair. Some pair.1) (dues_of l.pace l.now (messages l.all));
      filled : vec_len l.dues ≡ l.index;
      room : vec_capacity l.dues ≡ vec_capacity l.initial.dues;
      out : IfSome l.out (λ out. out ++ filter_map datagram_of rest ≡ tick_sends l.pace l.now (messages l.all));
      given_up : l.given_up + length (filter_map given_up_of rest) ≡ length (tick_gives_up l.pace l.now (messages l.all));
      few : l.given_up ≤ l.index;
    }
