use Rattle.std.proofs.Common.{◌≡◌, drop}
use Rattle.std.specs.List.{filter_map, zip}
use Rattle.osc_message.specs.{messages, repeated_to, slowed}
use Rattle.osc_message.proofs.tick.slow_all.Given as goal

abbrev pub invariant-loop-index : goal.invariant-loop-index
invariant-loop-index l = record {
  slow : slowed (filter_map repeated_to (zip (messages (drop l.index l.all)) (drop l.index l.dues))) l.pace ≡ slowed (filter_map repeated_to (zip (messages l.all) l.dues)) l.initial.pace;
}
