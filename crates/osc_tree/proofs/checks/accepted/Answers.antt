use Rattle.osc_tree.proofs.Passing.{on_ok}
use Rattle.osc_tree.proofs.checks.accepted.Goals as goal

pub returns-clause-writes : goal.returns-clause-writes
returns-clause-writes c =
    on_ok _ _ c.checked.result c.checked.ensures.passes
    (c.what_passes_can_be_written.ensures _ c.args.tree.now c.args.grant.now.scope c.args.path.now c.args.grant.now.request)
