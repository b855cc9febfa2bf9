use Rattle.std.proofs.Common.{refl, subst}
use Rattle.osc_token.specs.{ComesTo}
use Rattle.osc_authz.specs.{Answers}
use Rattle.osc_authz.proofs.desk.ServerDesk.answer_to.Goals as goal

pub returns-in-Ok-clause-answers : goal.returns-in-Ok-clause-answers
returns-in-Ok-clause-answers c = λ text comes.
    c.agree_unless_refused.ensures.answers text (subst (ComesTo text c.args.self.now.audience c.args.offer.now.on.at) c.in-Ok.is comes)

pub returns-in-Ok-clause-memory : goal.returns-in-Ok-clause-memory
returns-in-Ok-clause-memory c = λ err. (c.in-Ok.claims, c.in-Ok.scope, c.in-Ok.is, c.agree_unless_refused.ensures.memory err)

pub returns-in-Err-clause-answers : goal.returns-in-Err-clause-answers
returns-in-Err-clause-answers c = λ text comes.
    (Answers.refused c.in-Err.error (subst (ComesTo text c.args.self.now.audience c.args.offer.now.on.at) c.in-Err.is comes) refl refl, refl)
