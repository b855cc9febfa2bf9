use Rattle.std.proofs.Common.{◌≡◌, ◌++◌, ◌≤◌, take, drop, vec_len}
use Rattle.osc_cbor.specs.{item_count, pair_count, head, items_spelling, pairs_spelling, items_view, pairs_view}
use Rattle.osc_cbor.proofs.writer.+write.Given as goal

abbrev pub invariant-write_items-loop-item : goal.invariant-write_items-loop-item
invariant-write_items-loop-item l = record {
  written : l.out.items ++ items_spelling (items_view (drop l.item-index l.items)) ≡ l.fn.out.items ++ (head 4 (item_count (items_view l.items)) ++ items_spelling (items_view l.items));
  kept : take (vec_len l.fn.out) l.out.items ≡ l.fn.out.items;
  longer : vec_len l.fn.out ≤ vec_len l.out;
}

abbrev pub invariant-write_pairs-loop-key : goal.invariant-write_pairs-loop-key
invariant-write_pairs-loop-key l = record {
  written : l.out.items ++ pairs_spelling (pairs_view (drop l.key-index l.pairs)) ≡ l.fn.out.items ++ (head 5 (pair_count (pairs_view l.pairs)) ++ pairs_spelling (pairs_view l.pairs));
  kept : take (vec_len l.fn.out) l.out.items ≡ l.fn.out.items;
  longer : vec_len l.fn.out ≤ vec_len l.out;
}
