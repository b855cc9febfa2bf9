use Rattle.std.proofs.Common.{◌≡◌, ◌-◌, ◌+◌, ◌*◌}
use Rattle.osc_cbor.specs.{no_items, no_pairs, items_from, any_pairs_from, any_item_at, items_view, pairs_view}
use Rattle.osc_cbor.proofs.reader.+read.Given as goal

abbrev pub decreases-item_of : goal.decreases-item_of
decreases-item_of l = 3 * l.left

abbrev pub decreases-items_of : goal.decreases-items_of
decreases-items_of l = 3 * l.left + 1

abbrev pub decreases-pairs_of : goal.decreases-pairs_of
decreases-pairs_of l = 3 * l.left + 1

abbrev pub decreases-content_of : goal.decreases-content_of
decreases-content_of l = 3 * l.left + 2

abbrev pub invariant-items_of-loop : goal.invariant-items_of-loop
invariant-items_of-loop l = items_from (any_item_at l.left) (items_view l.items.items) (l.count - l.counter) l.rest ≡ items_from (any_item_at l.left) no_items l.count l.bytes

abbrev pub invariant-pairs_of-loop : goal.invariant-pairs_of-loop
invariant-pairs_of-loop l = any_pairs_from (any_item_at l.left) (pairs_view l.pairs.items) (l.count - l.counter) l.rest ≡ any_pairs_from (any_item_at l.left) no_pairs l.count l.bytes
