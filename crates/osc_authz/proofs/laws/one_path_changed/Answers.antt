use Rattle.std.proofs.Common.{refl}
use Rattle.osc_authz.proofs.ChangedPath.{put, removed}
use Rattle.osc_authz.proofs.laws.one_path_changed.Goals as goal

pub returns-clause-put : goal.returns-clause-put
returns-clause-put c = put c.paths_are_ordered.ensures.total c.paths_are_ordered.ensures.exact

pub returns-clause-removed : goal.returns-clause-removed
returns-clause-removed c = removed c.paths_are_ordered.ensures.total c.paths_are_ordered.ensures.exact

pub returns-clause-unchanged : goal.returns-clause-unchanged
returns-clause-unchanged c = λ tree path other differ. refl
