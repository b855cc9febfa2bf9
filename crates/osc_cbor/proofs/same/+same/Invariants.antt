use Rattle.std.proofs.Common.{◌≡◌, drop}
use Rattle.osc_cbor.specs.{same_items, same_pairs, items_view, pairs_view}
use Rattle.osc_cbor.proofs.same.+same.Given as goal

abbrev pub invariant-same_items-loop-i : goal.invariant-same_items-loop-i
invariant-same_items-loop-i l = same_items (items_view (drop l.i l.a)) (items_view (drop l.i l.b)) ≡ same_items (items_view l.a) (items_view l.b)

abbrev pub invariant-same_pairs-loop-i : goal.invariant-same_pairs-loop-i
invariant-same_pairs-loop-i l = same_pairs (pairs_view (drop l.i l.a)) (pairs_view (drop l.i l.b)) ≡ same_pairs (pairs_view l.a) (pairs_view l.b)
