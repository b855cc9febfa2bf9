use Rattle.std.proofs.Common.{◌≡◌, ◌++◌, drop, flat_map}
use Rattle.osc_diagram.specs.Chart.Text.{chart_text, mark_line}
use Rattle.osc_diagram.proofs.chart.text.chart_text.Given as goal

-- the lines so far, and those of the marks that are left
abbrev pub invariant-loop-mark : goal.invariant-loop-mark
invariant-loop-mark l = l.text.items ++ flat_map (mark_line l.columns) (drop l.mark-index l.marks) ≡ chart_text l.columns l.marks
