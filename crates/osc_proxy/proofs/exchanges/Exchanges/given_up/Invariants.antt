use Rattle.std.proofs.Common.{◌≡◌, ◌+◌, ◌++◌, ◌≤◌, length}
use Rattle.std.specs.List.{filter_map}
use Rattle.osc_message.specs.{tick_gives_up}
use Rattle.osc_proxy.specs.{entries}
use Rattle.osc_proxy.specs.Inner.Over.{own_given_up}
use Rattle.osc_proxy.proofs.exchanges.Exchanges.given_up.Given as goal

abbrev pub invariant-loop-exchange : goal.invariant-loop-exchange
invariant-loop-exchange l =
    let all = tick_gives_up l.endpoint.pace l.now l.endpoint.sending in
    record {
      names : l.names.items ++ filter_map (λ entry. own_given_up all entry.1) l.exchange-iterator ≡ filter_map (λ entry. own_given_up all entry.1) (entries l.self);
      few : length l.names.items + length l.exchange-iterator ≤ 64;
    }
