use Rattle.std.proofs.Common.{arith}
use Rattle.osc_cbor.proofs.LentLaws.{key_stands, value_stands, pairs_left}
use Rattle.osc_cbor.proofs.lent_lists.PairRefsIterator.next.Goals as goal

pub first_item-key-requires : goal.first_item-key-requires
first_item-key-requires c = key_stands c.self.inside.left c.self.inside.rest.now c.self.invariant (omega arith)

pub first_item-value-requires : goal.first_item-value-requires
first_item-value-requires c =
    value_stands c.self.inside.left c.self.inside.rest.now c.first_item-key.result.0 c.first_item-key.result.1.now c.self.invariant (omega arith) c.first_item-key.ensures

pub invariant_of-self : goal.invariant_of-self
invariant_of-self c =
    pairs_left c.self.inside.left c.self.inside.rest.now c.first_item-key.result.0 c.first_item-key.result.1.now c.first_item-value.result.0 c.first_item-value.result.1.now
    c.self.invariant (omega arith) c.first_item-key.ensures c.first_item-value.ensures
