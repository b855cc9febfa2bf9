use Rattle.osc_model.proofs.Below.{reaches_itself, one_reaches}
use Rattle.osc_model.proofs.laws.paths_in_common.Goals as goal

pub returns : goal.returns
returns c = record { own = reaches_itself; common = one_reaches }
