use Rattle.osc_proxy.proofs.Forwarded.{others_stay, stay_in_order, taken_go}
use Rattle.osc_proxy.proofs.laws.options_that_are_forwarded.Goals as goal

pub returns-clause-stay : goal.returns-clause-stay
returns-clause-stay c = others_stay

pub returns-clause-go : goal.returns-clause-go
returns-clause-go c = taken_go

pub returns-clause-order : goal.returns-clause-order
returns-clause-order c = stay_in_order
