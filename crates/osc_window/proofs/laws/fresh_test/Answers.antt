use Rattle.osc_window.proofs.Windows.{fresh_all, fresh_from}
use Rattle.osc_window.proofs.laws.fresh_test.Goals as goal

pub returns : goal.returns
returns c = λ accepted n. (fresh_all accepted n, fresh_from accepted n)
