use Rattle.osc_dedup.proofs.History.{looked_there}
use Rattle.osc_dedup.proofs.laws.one_table.Goals as goal

pub returns : goal.returns
returns c = looked_there
