use Rattle.osc_lab.proofs.LabRuns.{prints_leads, reached}
use Rattle.osc_lab.proofs.laws.labs_are_runs.Goals as goal

pub returns-clause-led : goal.returns-clause-led
returns-clause-led g c = λ first net. reached net first

pub returns-clause-printed : goal.returns-clause-printed
returns-clause-printed g c = λ net. prints_leads net
