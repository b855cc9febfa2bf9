use Rattle.osc_log.proofs.Telling.{unseen_writes}
use Rattle.osc_log.proofs.log.SilentLog.no_settings.Goals as goal

pub returns : goal.returns
returns c = unseen_writes _
