use Rattle.osc_server.proofs.Replies.{machine_reply}
use Rattle.osc_server.proofs.serving.applied.Goals as goal

pub returns-in-Ok-apply-clause-short : goal.returns-in-Ok-apply-clause-short
returns-in-Ok-apply-clause-short c =
    rw (c.in-Ok.is, c.in-Ok-apply.ensures.reply)
    (machine_reply _ c.args.tree.now c.args.scope.now c.in-Ok.request)
