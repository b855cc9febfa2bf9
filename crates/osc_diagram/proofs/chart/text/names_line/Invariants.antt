use Rattle.std.proofs.Common.{◌≡◌, ◌++◌, drop, flat_map}
use Rattle.osc_diagram.specs.Chart.Text.{name_cell}
use Rattle.osc_diagram.proofs.chart.text.names_line.Given as goal

abbrev pub invariant-loop-column : goal.invariant-loop-column
invariant-loop-column l = l.text.items ++ flat_map name_cell (drop l.column-index l.columns) ≡ flat_map name_cell l.columns
