use Rattle.std.proofs.Common.{◌≡◌, ◌++◌}
use Rattle.osc_diagram.specs.Chart.Drawing.{cells}
use Rattle.osc_diagram.proofs.chart.drawing.add_cells.Given as goal

abbrev pub invariant-loop-i : goal.invariant-loop-i
invariant-loop-i l = l.text.items ≡ l.initial.text.items ++ cells l.stroke l.i
