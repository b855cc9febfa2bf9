use Rattle.std.proofs.Common.{ap, sym, subst}
use Rattle.osc_client.specs.Inner.Bounds.{KeepsOwn}
use Rattle.osc_client.proofs.Own.{own_acknowledged}
use Rattle.osc_client.proofs.client.Client.reject.Goals as goal

pub invariant_of-self-2 : goal.invariant_of-self-2
invariant_of-self-2 c =
    let came = c.came.inside in
    let own = own_acknowledged came.from came.message.kind came.message.id c.self.inside.next_hop c.self.inside.waiting c.self.inside.endpoint.sending c.self.invariant.0 in (
      subst (KeepsOwn c.self.inside.next_hop c.self.inside.waiting) (ap (λ e. e.sending) (sym c.in_ok-step.ensures.dropped)) own,
      c.self.invariant.1,
      c.self.invariant.2,
    )
