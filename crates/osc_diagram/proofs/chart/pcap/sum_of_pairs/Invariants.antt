use Rattle.std.proofs.Common.{◌≡◌, ◌<◌, ◌+◌, ◌%◌, true, drop}
use Rattle.osc_diagram.specs.Chart.Capture.{sum_of_pairs}
use Rattle.osc_diagram.proofs.chart.pcap.sum_of_pairs.Given as goal

-- what was summed so far, and what is left
abbrev pub invariant-loop-byte : goal.invariant-loop-byte
invariant-loop-byte l = record {
  few : l.sum < 65535;
  whole : (l.sum + sum_of_pairs l.high (drop l.byte-index l.bytes)) % 65535 ≡ sum_of_pairs true l.bytes % 65535;
}
