use Rattle.std.proofs.lemmas.Result.{IfOk-weaker}
use Rattle.osc_programs.specs.{nothing_passed}
use Rattle.osc_programs.proofs.Passing.{passes_none}
use Rattle.osc_programs.proofs.Talking.{open_goes, told_goes}
use Rattle.osc_programs.proofs.asking.go_on.Goals as goal

pub returns-in-Told-clause-goes_on : goal.returns-in-Told-clause-goes_on
returns-in-Told-clause-goes_on g c =
    IfOk-weaker c.go_on_by.result _ _ (λ outcome goes. (goes.0, told_goes _ _ _ _ _ _ _ _ c.in-Told.is goes.1, goes.2)) c.go_on_by.ensures.goes_on

pub returns-in-Open-clause-goes_on : goal.returns-in-Open-clause-goes_on
returns-in-Open-clause-goes_on g c = (nothing_passed, open_goes _ _ _ _ _ c.in-Open.is, passes_none g.P.Port.received g.P.Port.sent _)
