use Rattle.std.proofs.Common.{◌∙◌, ap, refl, sym}
use Rattle.std.proofs.lemmas.Result.{IfOk-weaker}
use Rattle.osc_model.specs.declared.node.Moment.{Moment}
use Rattle.osc_programs.proofs.Talking.{both_ok}
use Rattle.osc_programs.proofs.asking.send_request.Goals as goal

pub returns-in-Ok-clause-sends : goal.returns-in-Ok-clause-sends
returns-in-Ok-clause-sends g c =
    both_ok c.sent.result _ _ _
    (λ _ is gone. (
      c.in-Ok.step,
      record { now = c.in_ok-now.now; draw = c.in_ok-now.draw; gives = c.in_ok-now.ensures.gives; asks = c.in-Ok.ensures.asked; busy = refl },
      sym is,
      gone,
    ))
    c.sent.ensures.learnt c.sent.ensures.passed

pub returns-in-Ok-clause-at : goal.returns-in-Ok-clause-at
returns-in-Ok-clause-at g c = IfOk-weaker c.sent.result _ _ (λ _ at. ap (λ (now : Moment). now.ms) at ∙ c.in_ok-now.ensures.gives.reads.is_moment) c.sent.ensures.at
