use Rattle.osc_turn.proofs.TimeLemmas.{steps_up}
use Rattle.osc_turn.proofs.time_laws.time_steps_up.Goals as goal

pub returns : goal.returns
returns c = steps_up
