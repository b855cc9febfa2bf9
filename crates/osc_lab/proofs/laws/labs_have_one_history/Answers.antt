use Rattle.osc_lab.specs.{run_of}
use Rattle.osc_lab.proofs.laws.labs_have_one_history.Goals as goal

pub returns : goal.returns
returns g c = λ first net old new leads begun premise. c.one_history.ensures (run_of first new.lab) (c.labs_are_runs.ensures.led first net old new leads begun) premise
