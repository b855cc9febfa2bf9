use Rattle.osc_authz.proofs.FinishLemmas.{finishes_once}
use Rattle.osc_authz.proofs.laws.one_finish.Goals as goal

pub returns : goal.returns
returns c = finishes_once c.one_payload.ensures.answer
