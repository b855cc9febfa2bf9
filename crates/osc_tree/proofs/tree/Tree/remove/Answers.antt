use Rattle.std.proofs.Common.{sym, subst, ap, ◌∙◌}
use Rattle.std.specs.FinMap as map
use Rattle.osc_model.specs.{IsWithinLimits}
use Rattle.osc_tree.proofs.Entries.{tree_of, removed}
use Rattle.osc_tree.proofs.tree.Tree.remove.Goals as goal

pub invariant_of-self : goal.invariant_of-self
invariant_of-self c =
    let es = c.self.inside.resources.entries in
    let order = c.paths_are_ordered.ensures in
    subst IsWithinLimits
    (sym (removed order.total order.exact es c.remove.new.self.entries c.args.path.now c.remove.ensures.updates.0))
    (c.trees_stay_within_limits.ensures.remove (tree_of es) c.args.path.now c.self.invariant)

pub returns : goal.returns
returns c =
    let order = c.paths_are_ordered.ensures in
    removed order.total order.exact c.self.inside.resources.entries c.remove.new.self.entries c.args.path.now c.remove.ensures.updates.0
    ∙ ap (λ t. map.remove t c.args.path.now) c.self.view_is
