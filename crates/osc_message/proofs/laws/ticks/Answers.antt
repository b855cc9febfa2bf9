use Rattle.osc_message.proofs.Places.{dues_at, stays_at}
use Rattle.osc_message.proofs.laws.ticks.Goals as goal

pub returns-clause-due : goal.returns-clause-due
returns-clause-due c = dues_at

pub returns-clause-stays : goal.returns-clause-stays
returns-clause-stays c = stays_at
