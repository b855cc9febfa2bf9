use Rattle.std.proofs.Common.{◌≡◌, ◌≤◌, ◌<◌, length}
use Rattle.std.specs.List.Sorted.{IsPermutation}
use Rattle.osc_cbor.proofs.keys.sort_neighbours.Given as goal

abbrev pub invariant-loop-end : goal.invariant-loop-end
invariant-loop-end l = IsPermutation l.fn.keys l.keys × (length l.keys ≡ length l.fn.keys) × (l.start < l.end) × (l.start ≤ length l.keys)
