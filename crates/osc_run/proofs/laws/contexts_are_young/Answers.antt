use Rattle.osc_run.proofs.Ages.{young}
use Rattle.osc_run.proofs.laws.contexts_are_young.Goals as goal

pub returns : goal.returns
returns c = young
