use Rattle.std.proofs.Common.{map}
use Rattle.osc_cbor.specs.{items_view}
use Rattle.osc_scope.specs.{Says}
use Rattle.osc_scope.proofs.text.entries.Given as goal

-- the parts so far say the items
abbrev pub invariant-loop-part : goal.invariant-loop-part
invariant-loop-part l = record {
  can_next : (goal.iterator-loop-part).can_next l.part-iterator;
  is_finite : (goal.iterator-loop-part).is_finite l.part-iterator;
  says : Says (map (λ part. part.now) l.yielded) (items_view l.items.items);
}
