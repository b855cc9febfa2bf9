use Rattle.std.proofs.Common.{◌≡◌, ◌++◌}
use Rattle.osc_diagram.specs.Chart.Text.{spaces}
use Rattle.osc_diagram.proofs.chart.text.add_spaces.Given as goal

abbrev pub invariant-loop-i : goal.invariant-loop-i
invariant-loop-i l = l.text.items ≡ l.initial.text.items ++ spaces l._i
