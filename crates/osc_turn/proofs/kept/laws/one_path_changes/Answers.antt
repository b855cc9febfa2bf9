use Rattle.osc_turn.proofs.kept.ChangeLemmas.{changes_one}
use Rattle.osc_turn.proofs.kept.laws.one_path_changes.Goals as goal

pub returns : goal.returns
returns c = let order = c.paths_are_ordered.ensures in changes_one order.total order.exact
