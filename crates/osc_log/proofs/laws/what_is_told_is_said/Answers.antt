use Rattle.osc_log.proofs.Telling.{counted, said, stays}
use Rattle.osc_log.proofs.laws.what_is_told_is_said.Goals as goal

pub returns-clause-said : goal.returns-clause-said
returns-clause-said c = said

pub returns-clause-stays : goal.returns-clause-stays
returns-clause-stays c = stays

pub returns-clause-counted : goal.returns-clause-counted
returns-clause-counted c = counted
