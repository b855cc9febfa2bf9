use Rattle.osc_run.proofs.ClientDoes.{begins}
use Rattle.osc_run.proofs.kinds.exchanges_that_start.Goals as goal

pub returns : goal.returns
returns c = begins
