use Rattle.osc_proxy.proofs.Ends.{left_ends, none_overdue}
use Rattle.osc_proxy.proofs.laws.none_is_over.Goals as goal

pub returns-clause-over : goal.returns-clause-over
returns-clause-over c = none_overdue

pub returns-clause-ends : goal.returns-clause-ends
returns-clause-ends c = left_ends
