use Rattle.std.proofs.Common.{sym, subst, ap, ◌∙◌}
use Rattle.std.proofs.lemmas.Bool.{false≢true}
use Rattle.std.specs.FinMap as map
use Rattle.std.specs.Option.{IsSome}
use Rattle.osc_model.specs.{IsWithinLimits}
use Rattle.osc_tree.proofs.Entries.{tree_of, get_is_lookup, inserted}
use Rattle.osc_tree.proofs.tree.Tree.replace.Goals as goal

pub replace_in-requires : goal.replace_in-requires
replace_in-requires c =
    let order = c.paths_are_ordered.ensures in
    subst IsSome
    (ap (λ t. map.get t c.args.path.now) (sym c.self.view_is) ∙ get_is_lookup order.total order.exact c.self.inside.resources.entries c.args.path.now)
    c.requires.present

pub invariant_of-self : goal.invariant_of-self
invariant_of-self c =
    let es = c.self.inside.resources.entries in
    let order = c.paths_are_ordered.ensures in
    let present = ap (λ t. map.contains_key t c.args.path.now) c.self.view_is ∙ c.requires.present in
    subst IsWithinLimits
    (sym (inserted order.total order.exact es c.replace_in.new.resources.entries c.args.path.now c.args.resource c.replace_in.ensures.0))
    (c.trees_stay_within_limits.ensures.insert (tree_of es) c.args.path.now c.args.resource c.self.invariant c.requires.short
    (λ absent. absurd (false≢true (sym absent ∙ present))))

pub returns : goal.returns
returns c =
    let order = c.paths_are_ordered.ensures in
    inserted order.total order.exact c.self.inside.resources.entries c.replace_in.new.resources.entries c.args.path.now c.args.resource c.replace_in.ensures.0
    ∙ ap (λ t. map.insert t c.args.path.now c.args.resource) c.self.view_is
