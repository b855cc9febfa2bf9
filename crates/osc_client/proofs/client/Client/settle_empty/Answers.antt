use Rattle.std.proofs.Common.{◌≡◌, ◌∙◌, ap, sym, subst, not, true}
use Rattle.osc_message.specs.{is_named}
use Rattle.osc_client.specs.{is_ended}
use Rattle.osc_client.specs.Inner.Bounds.{KeepsOwn}
use Rattle.osc_client.proofs.Own.{ended_gone, own_filtered}
use Rattle.osc_client.proofs.client.Client.settle_empty.Goals as goal

pub invariant_of-self : goal.invariant_of-self
invariant_of-self c =
    let ends : is_ended c.self.inside.next_hop c.args.from c.args.kind c.args.id c.self.inside.waiting ≡ true = sym c.is_ended-is_ended.ensures ∙ c.if-is_ended.true in
    let none = ended_gone c.self.inside.next_hop c.args.from c.args.kind c.args.id c.self.inside.waiting c.self.inside.endpoint.sending ends c.self.invariant.0 in
    (ap (λ e. e.sending) c.settle_empty.ensures ∙ none, tt, c.self.invariant.2)

pub invariant_of-self-else-is_ended : goal.invariant_of-self-else-is_ended
invariant_of-self-else-is_ended c =
    let own = own_filtered (λ m. not (is_named c.args.from c.args.id m)) c.self.inside.next_hop c.self.inside.waiting c.self.inside.endpoint.sending c.self.invariant.0 in (
      subst (KeepsOwn c.self.inside.next_hop c.self.inside.waiting) (ap (λ e. e.sending) (sym c.settle_empty.ensures)) own,
      c.self.invariant.1,
      c.self.invariant.2,
    )
