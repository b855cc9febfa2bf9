use Rattle.std.proofs.Common.{refl}
use Rattle.osc_log.specs.Log.{behind}
use Rattle.osc_log.proofs.Telling.{same_tells}
use Rattle.osc_log.proofs.log.FaultsLog.behind.Goals as goal

pub returns : goal.returns
returns g c = same_tells _ (behind c.args._now c.args._seconds) refl
