use Rattle.std.proofs.Common.{◌-◌, ◌≤◌}
use Rattle.osc_lab.proofs.Used.{CutAt}
use Rattle.osc_lab.proofs.usage.lines_before.Given as goal

-- the bytes so far are the lines so far
abbrev pub invariant-loop : goal.invariant-loop
invariant-loop l = record {
  some : 1 ≤ l.counter;
  most : l.counter ≤ l.number;
  cut : CutAt l.bytes l.at (l.counter - 1);
}
