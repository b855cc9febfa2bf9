use Rattle.osc_log.specs.Log.{no_event}
use Rattle.osc_log.proofs.Telling.{tells_more}
use Rattle.osc_log.proofs.laws.telling_goes_on.Goals as goal

pub returns-clause-none : goal.returns-clause-none
returns-clause-none c = no_event

pub returns-clause-more : goal.returns-clause-more
returns-clause-more c = tells_more
