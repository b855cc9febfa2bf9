use Rattle.osc_message.proofs.Limits.{idle_goes, one_goes, one_waits}
use Rattle.osc_message.proofs.laws.one_at_a_time.Goals as goal

pub returns-clause-idle : goal.returns-clause-idle
returns-clause-idle c = idle_goes

pub returns-clause-goes : goal.returns-clause-goes
returns-clause-goes c = one_goes

pub returns-clause-waits : goal.returns-clause-waits
returns-clause-waits c = one_waits
