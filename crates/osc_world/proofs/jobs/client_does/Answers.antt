use Rattle.std.proofs.Common.{IfOk, subst, sym}
use Rattle.std.proofs.lemmas.Result.{IfOk-weaker}
use Rattle.osc_client.specs.{core}
use Rattle.osc_run.specs.{ClientStep}
use Rattle.osc_world.specs.Inner.Tasks.{client_task_of}
use Rattle.osc_world.specs.{is_lie}
use Rattle.osc_world.specs.declared.jobs.ClientJob.{ClientJob}
use Rattle.osc_world.proofs.Taking.{client_kind}
use Rattle.osc_world.proofs.jobs.client_does.Goals as goal

pub returns-in-Do-clause-kind : goal.returns-in-Do-clause-kind
returns-in-Do-clause-kind g c =
    let event = c.args.event.now in
    let new = c.does.new.node in
    subst (λ (job : ClientJob). IfOk c.does.result (λ step. ClientStep (is_lie (client_task_of event job)) (core c.args.client.now) step.notes (core new))) (sym c.in-Do.is)
    (IfOk-weaker c.does.result _ _ (λ step it. client_kind g.A.Ciphers.is_sealing event c.in-Do.job c.args.client.now step new it) c.does.ensures.does)
