use Rattle.osc_store.proofs.StartLemmas.{keeps_leaves, may_leave_either}
use Rattle.osc_store.proofs.laws.starts_go_on.Goals as goal

pub returns : goal.returns
returns g c = record { kept = keeps_leaves; cut = may_leave_either }
