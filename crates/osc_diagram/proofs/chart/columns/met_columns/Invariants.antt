use Rattle.std.proofs.Common.{◌≡◌, ◌++◌, drop, filter}
use Rattle.osc_diagram.specs.Chart.Chart.{is_met}
use Rattle.osc_diagram.proofs.chart.columns.met_columns.Given as goal

-- the columns so far, and those that are left
abbrev pub invariant-loop-column : goal.invariant-loop-column
invariant-loop-column l = l.met.items ++ filter (is_met l.marks) (drop l.column-index l.columns) ≡ filter (is_met l.marks) l.columns
