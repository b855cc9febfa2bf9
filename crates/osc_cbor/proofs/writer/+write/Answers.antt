use Rattle.std.proofs.Common.{length, append_assoc, rules}
use Rattle.osc_cbor.specs.{head, items_spelling, pairs_spelling, items_view, pairs_view}
use Rattle.osc_cbor.proofs.Views.{item_count-view, pair_count-view}
use Rattle.osc_cbor.proofs.writer.+write.Goals as goal

pub write_items-loop-item-init : goal.write_items-loop-item-init
write_items-loop-item-init t c = record {
  written = rw (c.in_ok-write_head.ensures.ok, item_count-view c.args.items.now) (append_assoc c.args.out.now.items (head 4 (length c.args.items.now)) (items_spelling (items_view c.args.items.now)));
  kept = search rules;
  longer = search rules;
}

pub write_pairs-loop-key-init : goal.write_pairs-loop-key-init
write_pairs-loop-key-init t c = record {
  written = rw (c.in_ok-write_head.ensures.ok, pair_count-view c.args.pairs.now) (append_assoc c.args.out.now.items (head 5 (length c.args.pairs.now)) (pairs_spelling (pairs_view c.args.pairs.now)));
  kept = search rules;
  longer = search rules;
}
