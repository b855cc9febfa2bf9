use Rattle.std.proofs.Common.{◌≡◌, drop}
use Rattle.osc_log.specs.Counters.{with_counts}
use Rattle.osc_log.specs.Inner.Building.{line_of}
use Rattle.osc_log.proofs.counting.with_counts.Given as goal

-- the counts so far are in the line, and those that are left
abbrev pub invariant-loop-count : goal.invariant-loop-count
invariant-loop-count l = record {
  place : l.place ≡ l.count-index;
  counted : with_counts l.count-index (drop l.count-index l.counts) (line_of l.more) ≡ with_counts 0 l.counts (line_of l.fn.line);
}
