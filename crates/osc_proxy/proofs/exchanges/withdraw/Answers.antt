use Rattle.std.proofs.Common.{ap}
use Rattle.osc_proxy.proofs.Over.{none_its}
use Rattle.osc_proxy.proofs.exchanges.withdraw.Goals as goal

pub returns-else-exchange : goal.returns-else-exchange
returns-else-exchange c =
    let endpoint = c.args.endpoint.now in
    ap (λ s. record endpoint { sending = s }) (none_its c.args.exchange.now endpoint.sending c.if-exchange.false)
