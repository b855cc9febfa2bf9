use Rattle.std.proofs.Common.{sym}
use Rattle.osc_cbor.proofs.Views.{view-Map}
use Rattle.osc_cbor.proofs.SameSteps.{items_differ, pairs_differ}
use Rattle.osc_cbor.proofs.same.+same.Goals as goal

pub same-returns-in-Map-Map : goal.same-returns-in-Map-Map
same-returns-in-Map-Map t c =
    rw (c.in-Map-Map.is-0, c.in-Map-Map.is-1, view-Map c.in-Map-Map.a, view-Map c.in-Map-Map.b, ← c.deref-in-Map-Map.ensures.value, ← c.deref-in-Map-Map-2.ensures.value) c.same_pairs.ensures

pub same_items-returns-then-a-b : goal.same_items-returns-then-a-b
same_items-returns-then-a-b t c = sym (items_differ c.args.a.now c.args.b.now c.if-a-b.true)

pub same_pairs-returns-then-a-b : goal.same_pairs-returns-then-a-b
same_pairs-returns-then-a-b t c = sym (pairs_differ c.args.a.now c.args.b.now c.if-a-b.true)
