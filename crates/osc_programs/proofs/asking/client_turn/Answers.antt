use Rattle.std.proofs.Common.{◌∙◌, ap, sym}
use Rattle.std.proofs.lemmas.Result.{IfOk-weaker}
use Rattle.osc_model.specs.declared.node.Moment.{Moment}
use Rattle.osc_programs.proofs.asking.client_turn.Goals as goal

pub returns-in-Ok-clause-takes : goal.returns-in-Ok-clause-takes
returns-in-Ok-clause-takes g c =
    let takes = c.in-Ok.ensures.takes in
    IfOk-weaker c.learnt_of.result _ _ (λ _ is. (takes.0, c.in-Ok.turned.step, takes.1, sym is, takes.2, c.tell_strange.ensures)) c.learnt_of.ensures.learnt

pub returns-in-Ok-clause-at : goal.returns-in-Ok-clause-at
returns-in-Ok-clause-at g c = IfOk-weaker c.learnt_of.result _ _ (λ _ at. ap (λ (now : Moment). now.ms) at ∙ c.in-Ok.ensures.at) c.learnt_of.ensures.at
