use Rattle.std.proofs.Common.{refl}
use Rattle.osc_log.specs.Log.{lost}
use Rattle.osc_log.proofs.Telling.{same_tells}
use Rattle.osc_log.proofs.log.FaultsLog.lost.Goals as goal

pub returns : goal.returns
returns g c = same_tells _ (lost c.args._now) refl
