use Rattle.std.proofs.Common.{arith}
use Rattle.osc_cbor.proofs.LentLaws.{items_stand, items_left}
use Rattle.osc_cbor.proofs.lent_lists.ItemRefsIterator.next.Goals as goal

pub first_item-item-requires : goal.first_item-item-requires
first_item-item-requires c = items_stand c.self.inside.left c.self.inside.rest.now c.self.invariant (omega arith)

pub invariant_of-self : goal.invariant_of-self
invariant_of-self c =
    items_left c.self.inside.left c.self.inside.rest.now c.first_item-item.result.0 c.first_item-item.result.1.now c.self.invariant (omega arith) c.first_item-item.ensures
