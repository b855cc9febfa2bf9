use Rattle.std.proofs.Common.{◌∙◌, sym}
use Rattle.std.proofs.lemmas.Result.{IfOk-weaker}
use Rattle.osc_programs.specs.{then_passed}
use Rattle.osc_programs.specs.Staying.{asked, stopped}
use Rattle.osc_programs.proofs.Passing.{passes_more}
use Rattle.osc_programs.proofs.requests.asked_after_post.Goals as goal

pub returns-then-is_made-clause-asks : goal.returns-then-is_made-clause-asks
returns-then-is_made-clause-asks g c =
    let renewed = c.in_ok-outcome.ensures.renews in
    IfOk-weaker c.asked_once.result _ _
    (λ end once. (
      then_passed renewed.0 once.0,
      asked c.in_ok-outcome.outcome renewed.0 once.0 _ _ end renewed.1 (sym c.is_made.ensures ∙ c.if-is_made.true) once.1,
      passes_more g.P.Port.received g.P.Port.sent _ _ _ renewed.0 once.0 renewed.2 once.2,
    ))
    c.asked_once.ensures.once

pub returns-clause-asks : goal.returns-clause-asks
returns-clause-asks g c =
    let renewed = c.in_ok-outcome.ensures.renews in
    (renewed.0, stopped c.in_ok-outcome.outcome renewed.0 _ renewed.1 (sym c.is_made.ensures ∙ c.if-is_made.false), renewed.2)
