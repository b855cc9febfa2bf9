use Rattle.std.proofs.Common.{rules, ◌≡◌, ◌∙◌, ap, refl, subst, sym, true, Some}
use Rattle.std.specs.Result.{IsErr}
use Rattle.osc_coap.specs.Message.{Message}
use Rattle.osc_model.specs.Arrival.{Arrival}
use Rattle.osc_client.specs.{is_read, counts}
use Rattle.osc_client.specs.Answering.{IsRead}
use Rattle.osc_client.specs.Inner.Bounds.{KeepsOwn}
use Rattle.osc_client.proofs.Own.{counted_gone, has_after, own_none}
use Rattle.osc_client.proofs.Outcomes.{grant_after}
use Rattle.osc_client.proofs.client.Client.count.Goals as goal

pub invariant_of-self : goal.invariant_of-self
invariant_of-self g c =
    let w = c.unwrap-waiting.result in
    let waits : c.self.inside.waiting ≡ Some w = search rules in
    let from = c.came.inside.from in
    let message = c.came.inside.message in
    let old = c.args.self.now in
    let counted : counts c.self.inside.next_hop from message (Some w) ≡ true =
    ap (counts c.self.inside.next_hop from message) (sym waits) ∙ ap (λ s. counts s.next_hop from message s.waiting) c.self.view_is
    ∙ ap (λ (a : Arrival Message). counts old.next_hop a.from a.what old.waiting) c.came.view_is ∙ c.requires in
    let own : KeepsOwn c.self.inside.next_hop (Some w) c.self.inside.endpoint.sending = rw waits at c.self.invariant.0 in
    let none = counted_gone c.self.inside.next_hop from message w c.self.inside.endpoint.sending counted own in
    let has = has_after c.in-Ok.outcome c.self.inside.context w (rw waits at c.self.invariant.1) in (
      own_none c.self.inside.next_hop c.outcome_of-outcome.result.waiting c.settle.new.self.sending (ap (λ e. e.sending) c.settle.ensures ∙ none),
      rw (c.learn-notes.ensures.context, (rw c.in-Ok.is at c.outcome_of-outcome.ensures.waits)) has,
      rw c.learn-notes.ensures.context
          (grant_after g.A.Ciphers.is_sealing c.self.inside.desk message c.self.inside.context w.what c.in-Ok.outcome (rw c.in-Ok.is at c.outcome_of-outcome.ensures.comes) c.self.invariant.2),
    )

pub returns-in-Err-clause-needs_memory : goal.returns-in-Err-clause-needs_memory
returns-in-Err-clause-needs_memory g c =
    let w = c.unwrap-waiting.result in
    let waits : c.self.inside.waiting ≡ Some w = search rules in
    let err : IsErr c.outcome_of-outcome.result.outcome = rw c.in-Err.is refl in
    is_read w (ap (λ s. s.waiting) (sym c.self.view_is) ∙ waits)
    (subst (λ (a : Arrival Message). IsRead w.what a.what) c.came.view_is (c.outcome_of-outcome.ensures.read err))
