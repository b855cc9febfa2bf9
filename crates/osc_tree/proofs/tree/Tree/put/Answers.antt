use Rattle.std.proofs.Common.{◌≡◌, ◌<◌, false, sym, subst, ap, ◌∙◌}
use Rattle.std.specs.FinMap as map
use Rattle.osc_model.specs.{IsWithinLimits, most_resources}
use Rattle.osc_tree.proofs.Entries.{tree_of, inserted}
use Rattle.osc_tree.proofs.tree.Tree.put.Goals as goal

pub invariant_of-self-2 : goal.invariant_of-self-2
invariant_of-self-2 c =
    let es = c.self.inside.resources.entries in
    let path = c.args.path in
    let order = c.paths_are_ordered.ensures in
    subst IsWithinLimits
    (sym (inserted order.total order.exact es c.insert.new.self.entries path c.new.result c.in_ok-insert.ensures.updates.0 ∙ ap (map.insert (tree_of es) path) c.new.ensures))
    (c.trees_stay_within_limits.ensures.insert (tree_of es) path c.args.resource c.self.invariant c.requires.short
    (subst (λ t. map.contains_key t path ≡ false → map.len t < most_resources) (sym c.self.view_is) c.requires.room))

pub returns-clause-ok : goal.returns-clause-ok
returns-clause-ok c =
    let es = c.self.inside.resources.entries in
    let order = c.paths_are_ordered.ensures in
    inserted order.total order.exact es c.insert.new.self.entries c.args.path c.new.result c.in_ok-insert.ensures.updates.0
    ∙ ap (map.insert (tree_of es) c.args.path) c.new.ensures
    ∙ ap (λ t. map.insert t c.args.path c.args.resource) c.self.view_is
