use Rattle.osc_window.specs.{window_of}
use Rattle.osc_window.proofs.Windows.{history_window, window_fresh}
use Rattle.osc_window.proofs.laws.one_window.Goals as goal

pub returns-clause-window : goal.returns-clause-window
returns-clause-window c = history_window

pub returns-clause-fresh : goal.returns-clause-fresh
returns-clause-fresh c = λ accepted n done. window_fresh (window_of accepted) accepted n (history_window accepted done)
