use Rattle.std.proofs.Common.{◌≡◌, ◌++◌, drop}
use Rattle.osc_diagram.specs.Chart.Picture.{groups}
use Rattle.osc_diagram.proofs.chart.svg.add_groups.Given as goal

abbrev pub invariant-loop-mark : goal.invariant-loop-mark
invariant-loop-mark l = record {
  row : l.row ≡ l.mark-index;
  drawn : l.text.items ++ groups l.columns l.row (drop l.mark-index l.marks) ≡ l.initial.text.items ++ groups l.columns 0 l.marks;
}
