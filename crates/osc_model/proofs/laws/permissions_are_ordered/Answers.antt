use Rattle.osc_model.proofs.Orders.{permissions_total, permissions_exact, same_permission}
use Rattle.osc_model.proofs.laws.permissions_are_ordered.Goals as goal

pub returns : goal.returns
returns c = record { total = permissions_total; exact = permissions_exact; same = same_permission }
