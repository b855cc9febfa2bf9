use Rattle.osc_authz.proofs.ExchangeLemmas.{one_post, one_answer}
use Rattle.osc_authz.proofs.laws.one_payload.Goals as goal

pub returns-clause-post : goal.returns-clause-post
returns-clause-post c = one_post c.one_item.ensures

pub returns-clause-answer : goal.returns-clause-answer
returns-clause-answer c = one_answer c.one_item.ensures
