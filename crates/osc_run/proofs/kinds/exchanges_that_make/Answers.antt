use Rattle.osc_run.proofs.ClientDoes.{finishes}
use Rattle.osc_run.proofs.kinds.exchanges_that_make.Goals as goal

pub returns : goal.returns
returns c = finishes
