use Rattle.osc_message.proofs.Idle.{idle_repeats, idle_ticked}
use Rattle.osc_message.proofs.laws.ticks_at_rest.Goals as goal

pub returns-clause-sending : goal.returns-clause-sending
returns-clause-sending c = idle_ticked

pub returns-clause-pace : goal.returns-clause-pace
returns-clause-pace c = idle_repeats
