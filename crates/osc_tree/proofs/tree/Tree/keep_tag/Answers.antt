use Rattle.std.proofs.Common.{◌≡◌, Some, sym, subst, ap, ◌∙◌}
use Rattle.std.specs.FinMap as map
use Rattle.std.specs.Option.{IfSome}
use Rattle.osc_model.specs.{etag_of}
use Rattle.osc_tree.proofs.Entries.{get_is_lookup}
use Rattle.osc_tree.proofs.tree.Tree.keep_tag.Goals as goal

pub keep_in-requires : goal.keep_in-requires
keep_in-requires c =
    let order = c.paths_are_ordered.ensures in
    subst (λ found. IfSome found (λ resource. c.args.tag ≡ Some (etag_of resource)))
    (ap (λ t. map.get t c.args.path.now) (sym c.self.view_is) ∙ get_is_lookup order.total order.exact c.self.inside.resources.entries c.args.path.now)
    c.requires
