use Rattle.std.proofs.Common.{◌∙◌, sym, ap, map, not, bytes_eq, ◌&&◌}
use Rattle.std.specs.FinSet as set
use Rattle.osc_model.specs.{exactly}
use Rattle.osc_scope.specs.{Entry, has, is_below, entry_with}
use Rattle.osc_scope.proofs.Grants.{any-map}
use Rattle.osc_scope.proofs.SameScope.{scope_has}
use Rattle.osc_scope.proofs.scope.Scope.has_exactly.Goals as goal

-- the scope of the entries has what one of them has
pub returns : goal.returns
returns c =
    let order = c.permissions_are_ordered.ensures in
    let path = c.args.path.now in
    let method = c.args.method in
    let pairs = c.self.inside.entries in
    c.has_exactly.ensures
    ∙ sym (any-map (λ (entry : Entry). bytes_eq path entry.path && (not (is_below entry.mask) && has entry.mask method)) entry_with pairs)
    ∙ sym (scope_has order.total order.exact order.same (map entry_with pairs) path method)
    ∙ ap (λ s. set.contains s (exactly path method)) c.self.view_is
