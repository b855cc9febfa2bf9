use Rattle.std.proofs.Common.{◌∙◌, sym, ap}
use Rattle.osc_model.specs.{has_subtrees}
use Rattle.osc_scope.proofs.Grants.{goes_below}
use Rattle.osc_scope.proofs.scope.Scope.has_subtrees.Goals as goal

-- one of the entries counts below its path where a permission of the scope does
pub returns : goal.returns
returns c =
    c.self.invariant.1
    ∙ sym (goes_below c.any_permission.ensures c.self.inside.entries c.self.invariant.0)
    ∙ ap has_subtrees c.self.view_is
