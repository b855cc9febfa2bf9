use Rattle.std.proofs.Common.{◌≡◌, ◌++◌, drop}
use Rattle.osc_diagram.specs.Chart.Picture.{columns_from, y_of}
use Rattle.osc_diagram.proofs.chart.svg.add_columns.Given as goal

abbrev pub invariant-loop-column : goal.invariant-loop-column
invariant-loop-column l = record {
  number : l.number ≡ l.column-index;
  drawn : l.text.items ++ columns_from l.height l.number (drop l.column-index l.columns) ≡ l.initial.text.items ++ columns_from l.height 0 l.columns;
}
