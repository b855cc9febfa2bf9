use Rattle.osc_log.proofs.Appended.{appends_kept}
use Rattle.osc_log.proofs.output.write_once.Goals as goal

pub returns-in-Ok-clause-appends : goal.returns-in-Ok-clause-appends
returns-in-Ok-clause-appends g c = appends_kept _ _ _ _ c.loop.invariant c.in-Ok.ensures.bytes
