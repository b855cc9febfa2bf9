use Rattle.std.proofs.Common.{refl}
use Rattle.osc_proxy.proofs.Its.{each_at, each_fewer_by}
use Rattle.osc_proxy.proofs.proxy.Proxy.reject.Goals as goal

pub invariant_of-self-2 : goal.invariant_of-self-2
invariant_of-self-2 c =
    let inside = c.self.inside in
    let message = c.came.inside.message in
    each_at inside.exchanges inside.exchanges c.reject.new.self _ refl c.in_ok-step.ensures.dropped
    (each_fewer_by inside.exchanges c.came.inside.from message.kind message.id inside.endpoint.sending c.self.invariant)
