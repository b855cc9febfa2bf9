use Rattle.std.proofs.Common.{◌≡◌, ◌++◌, drop, flat_map}
use Rattle.osc_diagram.specs.Chart.Capture.{capture, of_mark}
use Rattle.osc_diagram.proofs.chart.pcap.capture.Given as goal

-- the records so far, and those of the marks that are left
abbrev pub invariant-loop-mark : goal.invariant-loop-mark
invariant-loop-mark l = l.file.items ++ flat_map of_mark (drop l.mark-index l.marks) ≡ capture l.marks
