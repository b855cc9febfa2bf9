use Rattle.std.proofs.Common.{◌∙◌, sym}
use Rattle.std.proofs.lemmas.Result.{IfOk-weaker}
use Rattle.osc_programs.specs.{then_passed}
use Rattle.osc_programs.specs.Staying.{once, renewed, twice}
use Rattle.osc_programs.proofs.Passing.{passes_more}
use Rattle.osc_programs.proofs.requests.attended.Goals as goal

pub returns-then-stale-clause-attends : goal.returns-then-stale-clause-attends
returns-then-stale-clause-attends g c =
    IfOk-weaker c.asked_after_post.result _ _ (λ end asked. (asked.0, renewed end asked.0 _ c.if-stale.true asked.1, asked.2)) c.asked_after_post.ensures.asks

pub returns-then-goes_again-clause-attends : goal.returns-then-goes_again-clause-attends
returns-then-goes_again-clause-attends g c =
    let first = c.in_ok-first.ensures.once in
    let second = c.in_ok-end.ensures.asks in (
      then_passed first.0 second.0,
      rw c.sent_by.ensures
          (twice c.in_ok-first.first c.in_ok-end.end first.0 second.0 _ _ c.if-stale.false first.1 (sym c.goes_again.ensures ∙ c.if-goes_again.true) second.1),
      passes_more g.P.Port.received g.P.Port.sent _ _ _ first.0 second.0 first.2 second.2,
    )

pub returns-clause-attends : goal.returns-clause-attends
returns-clause-attends g c =
    let first = c.in_ok-first.ensures.once in
    (first.0, once c.in_ok-first.first first.0 _ c.if-stale.false first.1 (sym c.goes_again.ensures ∙ c.if-goes_again.false), first.2)
