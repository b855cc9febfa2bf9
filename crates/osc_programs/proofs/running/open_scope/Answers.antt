use Rattle.std.proofs.Common.{◌∙◌}
use Rattle.osc_programs.proofs.OpenPaths.{one_path}
use Rattle.osc_programs.proofs.running.open_scope.Goals as goal

pub loop-path-preserved : goal.loop-path-preserved
loop-path-preserved c =
    let order = c.permissions_are_ordered.ensures in
    one_path order.total order.exact c.args.paths.now c.loop-path.path-index _ c.in_ok-clone.field-0 _ _ c.loop-path-test.true
    (c.in_ok-clone.ensures.cases ∙ c.path-item.is) c.loop-path.invariant c.in_ok-allow.ensures.ok
