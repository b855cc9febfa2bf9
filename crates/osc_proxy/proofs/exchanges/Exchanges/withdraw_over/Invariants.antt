use Rattle.std.proofs.Common.{◌≡◌, not}
use Rattle.std.specs.Prelude.{filter}
use Rattle.osc_proxy.specs.{is_of_over, without_over}
use Rattle.osc_proxy.proofs.exchanges.Exchanges.withdraw_over.Given as goal

abbrev pub invariant-loop-exchange : goal.invariant-loop-exchange
invariant-loop-exchange l =
    record l.endpoint { sending = filter (λ message. not (is_of_over l.now l.exchange-iterator message)) l.endpoint.sending }
    ≡ record l.fn.endpoint { sending = without_over l.now l.self l.fn.endpoint.sending }
