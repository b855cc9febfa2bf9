use Rattle.std.proofs.Common.{refl}
use Rattle.osc_log.specs.Log.{behind, unseen}
use Rattle.osc_log.proofs.Telling.{same_tells}
use Rattle.osc_log.proofs.log.SilentLog.behind.Goals as goal

pub returns : goal.returns
returns c = same_tells unseen (behind c.args._now c.args._seconds) refl
