use Rattle.std.proofs.Common.{◌≡◌, ◌++◌, ◌+◌, ◌≤◌, length, filter, drop, count_by, ◌-◌}
use Rattle.std.specs.List.{IsDistinct}
use Rattle.std.specs.Map.{keys_of}
use Rattle.indexmap.specs.IndexMap.{spare}
use Rattle.indexmap.specs.Drain.{drain_rest}
use Rattle.osc_dedup.specs.{stays, same_key}
use Rattle.osc_dedup.proofs.table.move_staying.Given as goal

abbrev pub invariant-loop-key : goal.invariant-loop-key
invariant-loop-key l = record {
  moves : l.to.entries ++ drop l.left (filter (stays l.now l.replaced) (drain_rest l.key-iterator))
      ≡ drop (count_by (stays l.now l.replaced) l.fn.from.entries - l.most) (filter (stays l.now l.replaced) l.fn.from.entries);
  apart : IsDistinct same_key (keys_of l.to.entries ++ keys_of (drain_rest l.key-iterator));
  room : length (drain_rest l.key-iterator) ≤ spare l.to;
  kept : spare l.fn.to ≤ spare l.to + length l.to.entries;
}
