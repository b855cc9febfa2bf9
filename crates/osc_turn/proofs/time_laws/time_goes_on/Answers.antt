use Rattle.osc_turn.proofs.TimeLemmas.{goes_on}
use Rattle.osc_turn.proofs.time_laws.time_goes_on.Goals as goal

pub returns : goal.returns
returns c = goes_on
