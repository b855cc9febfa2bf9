use Rattle.std.proofs.lemmas.Result.{IfOk-weaker}
use Rattle.osc_programs.specs.{nothing_passed}
use Rattle.osc_programs.proofs.Passing.{passes_none}
use Rattle.osc_programs.proofs.Talking.{is_last, made_goes}
use Rattle.osc_programs.proofs.asking.go_on_by.Goals as goal

pub returns-in-Made-clause-goes_on : goal.returns-in-Made-clause-goes_on
returns-in-Made-clause-goes_on g c =
    IfOk-weaker c.ask_and_wait.result _ _ (λ outcome asked. (asked.0, made_goes _ _ _ _ _ _ _ c.in-Made.is asked.1, asked.2)) c.ask_and_wait.ensures.requests

pub returns-in_default : goal.returns-in_default
returns-in_default g c = record {
  goes_on = (nothing_passed, is_last _ _ _ c.args.told _ c.in_default.not-Made, passes_none g.P.Port.received g.P.Port.sent _);
  ends = tt;
}
