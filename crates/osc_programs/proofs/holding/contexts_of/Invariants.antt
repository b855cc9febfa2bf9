use Rattle.std.proofs.Common.{◌≡◌, ◌≤◌}
use Rattle.osc_programs.specs.Holding.{taken_below}
use Rattle.osc_programs.proofs.holding.contexts_of.Given as goal

-- those below are counted
abbrev pub invariant-loop-id : goal.invariant-loop-id
invariant-loop-id l = record {
  counted : l.count ≡ taken_below l.id l.desk.table;
  few : l.count ≤ l.id;
  within : l.id ≤ 256;
}
