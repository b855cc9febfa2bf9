use Rattle.osc_scope.proofs.Grants.{scope_allows}
use Rattle.osc_scope.proofs.laws.one_of_the_entries.Goals as goal

pub returns : goal.returns
returns c = scope_allows c.any_permission.ensures
