use Rattle.std.proofs.Common.{refl}
use Rattle.osc_log.specs.Log.{lost, unseen}
use Rattle.osc_log.proofs.Telling.{same_tells}
use Rattle.osc_log.proofs.log.SilentLog.lost.Goals as goal

pub returns : goal.returns
returns c = same_tells unseen (lost c.args._now) refl
