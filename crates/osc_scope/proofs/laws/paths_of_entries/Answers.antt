use Rattle.osc_scope.proofs.SharedPaths.{apart_where, named}
use Rattle.osc_scope.proofs.laws.paths_of_entries.Goals as goal

pub returns-clause-named : goal.returns-clause-named
returns-clause-named c = named c.any_permission.ensures

pub returns-clause-apart : goal.returns-clause-apart
returns-clause-apart c = apart_where c.paths_in_common.ensures.own c.paths_in_common.ensures.common c.any_permission.ensures
