use Rattle.std.proofs.Common.{◌+◌, ◌*◌}
use Rattle.osc_cbor.specs.{item_at}
use Rattle.osc_cbor.proofs.PassLaws.{PassedItems, PassedPairs}
use Rattle.osc_cbor.proofs.pass.+pass.Given as goal

abbrev pub decreases-pass : goal.decreases-pass
decreases-pass g l = 5 * l.left

abbrev pub decreases-pass_behind : goal.decreases-pass_behind
decreases-pass_behind g l = 5 * l.left + 4

abbrev pub decreases-pass_content : goal.decreases-pass_content
decreases-pass_content g l = 5 * l.left + 3

abbrev pub decreases-pass_pairs : goal.decreases-pass_pairs
decreases-pass_pairs g l = 5 * l.left + 2

abbrev pub decreases-pass_each_pair : goal.decreases-pass_each_pair
decreases-pass_each_pair g l = 5 * l.left + 1

abbrev pub decreases-pass_items : goal.decreases-pass_items
decreases-pass_items g l = 5 * l.left + 1

abbrev pub invariant-pass_items-loop : goal.invariant-pass_items-loop
invariant-pass_items-loop g l = PassedItems (item_at l.left) l.count l.counter l.bytes l.rest l.fn.spelled.items l.spelled.items l.fn.keys.items l.keys.items

abbrev pub invariant-pass_each_pair-loop : goal.invariant-pass_each_pair-loop
invariant-pass_each_pair-loop g l = PassedPairs (item_at l.left) l.count l.counter l.bytes l.rest l.fn.spelled.items l.spelled.items l.fn.keys.items l.keys.items
