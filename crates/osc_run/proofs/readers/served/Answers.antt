use Rattle.std.proofs.Common.{Bor, ap, ◌∙◌}
use Rattle.osc_model.specs.StepNotes.{StepNotes}
use Rattle.osc_model.specs.declared.step.Entry.{Entry}
use Rattle.osc_run.specs.{Noted}
use Rattle.osc_run.proofs.NotedSteps.{read_more_lent}
use Rattle.osc_run.proofs.readers.served.Goals as goal

pub loop-step-preserved : goal.loop-step-preserved
loop-step-preserved c =
    read_more_lent (λ (entry : Bor Entry). entry.now) (λ (step : Noted). step.notes.served)
    c.args.steps.now c.loop-step.step-index c.step-item.result c.loop-step-test.true c.step-item.is c.loop-step.all.items c.push_some.new.list.items
    c.served.result c.loop-step.invariant (c.served.ensures ∙ ap (λ (n : StepNotes). n.served) c.notes.ensures) c.in_ok-push_some.ensures
