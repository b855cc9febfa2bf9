use Rattle.osc_log.proofs.Served.{told_in}
use Rattle.osc_log.proofs.laws.what_is_served_is_told.Goals as goal

pub returns : goal.returns
returns c = told_in
