use Rattle.std.proofs.Common.{◌≡◌, ◌-◌, ◌+◌, ◌*◌}
use Rattle.osc_cbor.specs.{Items, no_items, items_from, item_at}
use Rattle.osc_cbor.specs.Inner.Ends.{Passed}
use Rattle.osc_cbor.proofs.extents.+extent.Given as goal

abbrev pub decreases-behind : goal.decreases-behind
decreases-behind l = 3 * l.left

abbrev pub decreases-behind_items : goal.decreases-behind_items
decreases-behind_items l = 3 * l.left + 1

abbrev pub decreases-behind_pairs : goal.decreases-behind_pairs
decreases-behind_pairs l = 3 * l.left + 1

abbrev pub decreases-behind_content : goal.decreases-behind_content
decreases-behind_content l = 3 * l.left + 2

abbrev pub invariant-behind_items-loop : goal.invariant-behind_items-loop
invariant-behind_items-loop l = (before : Items) × (items_from (item_at l.left) before (l.count - l.counter) l.rest ≡ items_from (item_at l.left) no_items l.count l.bytes)

abbrev pub invariant-behind_pairs-loop-index : goal.invariant-behind_pairs-loop-index
invariant-behind_pairs-loop-index l = Passed (item_at l.left) l.count l.index l.bytes l.rest
