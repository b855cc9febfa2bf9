use Rattle.std.proofs.Common.{map}
use Rattle.std.specs.Map.Iter.{deref_pair}
use Rattle.osc_dedup.specs.{AllLiveUntil}
use Rattle.osc_dedup.proofs.table.live_until.Given as goal

abbrev pub invariant-loop-noted : goal.invariant-loop-noted
invariant-loop-noted l = AllLiveUntil l.earliest (map deref_pair l.yielded)
