use Rattle.osc_model.proofs.Accepted.{allows_write}
use Rattle.osc_model.proofs.laws.what_passes_can_be_written.Goals as goal

pub returns : goal.returns
returns c = allows_write
