use Rattle.osc_window.proofs.Windows.{fresh_before}
use Rattle.osc_window.proofs.laws.fresh_after.Goals as goal

pub returns : goal.returns
returns c = fresh_before
