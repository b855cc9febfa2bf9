use Rattle.osc_model.proofs.Members.{any_member}
use Rattle.osc_model.proofs.Orders.{permissions_total, permissions_exact}
use Rattle.osc_model.proofs.laws.any_permission.Goals as goal

pub returns : goal.returns
returns c = any_member permissions_total permissions_exact
