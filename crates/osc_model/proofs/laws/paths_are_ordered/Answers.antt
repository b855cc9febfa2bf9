use Rattle.osc_model.proofs.Orders.{paths_total, paths_exact}
use Rattle.osc_model.proofs.laws.paths_are_ordered.Goals as goal

pub returns : goal.returns
returns c = record { total = paths_total; exact = paths_exact }
