use Rattle.std.proofs.Common.{◌∙◌, ap, sym, subst}
use Rattle.osc_model.specs.declared.reply.Reply.{Reply}
use Rattle.osc_example.specs.Inner.Wish.{IsDone}
use Rattle.osc_example.proofs.wish.wanted_by.Goals as goal

pub returns : goal.returns
returns c = λ wanted.
    let reply = ap (λ s. s.reply) c.served.view_is in
    let means = c.wanted_where.ensures wanted in (
      (λ found. record {
        method = sym c.method.ensures ∙ c.is_put-put.ensures.0 (means.0 found).0;
        path = sym c.path.ensures ∙ c.leads_to_wanted-leads.ensures.0 (means.0 found).1;
        payload = sym c.payload.ensures ∙ (means.0 found).3;
        done = subst (λ (r : Reply). IsDone r.code) reply (c.is_done-done.ensures.0 (means.0 found).2);
      }),
      (λ wish. means.1 (
        c.is_put-put.ensures.1 (c.method.ensures ∙ wish.method),
        c.leads_to_wanted-leads.ensures.1 (c.path.ensures ∙ wish.path),
        c.is_done-done.ensures.1 (subst (λ (r : Reply). IsDone r.code) (sym reply) wish.done),
        c.payload.ensures ∙ wish.payload,
      )),
    )
