use Rattle.std.proofs.Common.{refl}
use Rattle.osc_proxy.proofs.Its.{each_at, each_fewer}
use Rattle.osc_proxy.proofs.proxy.Proxy.acknowledge.Goals as goal

pub invariant_of-self : goal.invariant_of-self
invariant_of-self c =
    let inside = c.self.inside in
    each_at inside.exchanges inside.exchanges c.settle_empty.new.self _ refl c.settle_empty.ensures
    (each_fewer inside.exchanges c.args.named.peer c.args.named.id inside.endpoint.sending c.self.invariant)
