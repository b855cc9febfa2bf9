use Rattle.osc_authz.proofs.LastAnswers.{answer_found}
use Rattle.osc_authz.proofs.laws.answers_are_found.Goals as goal

pub returns : goal.returns
returns c = λ id last table held found. answer_found id last table held found
