use Rattle.std.proofs.Common.{ap, ◌∙◌}
use Rattle.osc_authz.proofs.PostLemmas.{judged}
use Rattle.osc_authz.proofs.desk.ServerDesk.answer.Goals as goal

pub returns-clause-answers : goal.returns-clause-answers
returns-clause-answers c =
    c.answer_to.ensures.answers c.args.text.now
    (judged c.args.text.now c.self.inside.audience c.args.self.now.audience c.on.inside.at c.args.offer.now.on.at c.in_ok-verdict.verdict
    c.in_ok-verdict.ensures.judged (ap (λ desk. desk.audience) c.self.view_is)
    (ap (λ on. on.at) c.on.view_is ∙ ap (λ offer. offer.on.at) c.offer.view_is))
