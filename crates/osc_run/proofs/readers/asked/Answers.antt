use Rattle.osc_run.specs.{question_in, Noted}
use Rattle.osc_run.proofs.NotedSteps.{read_more}
use Rattle.osc_run.proofs.readers.asked.Goals as goal

pub loop-step-preserved : goal.loop-step-preserved
loop-step-preserved c =
    read_more (λ (step : Noted). question_in step.actor step.lied step.notes.seals)
    c.args.steps.now c.loop-step.step-index c.step-item.result c.loop-step-test.true c.step-item.is c.loop-step.all.items c.push_some.new.list.items
    c.question_of.result c.loop-step.invariant c.question_of.ensures c.in_ok-push_some.ensures
