use Rattle.std.proofs.Common.{◌∙◌, arith}
use Rattle.osc_cbor.specs.{array, item, no_items}
use Rattle.osc_cbor.proofs.LentLaws.{items_stand, items_left, items_first}
use Rattle.osc_cbor.proofs.lent_lists.ItemRefs.next_two.Goals as goal

pub two_inside-requires : goal.two_inside-requires
two_inside-requires c = items_stand c.self.inside.left c.self.inside.rest.now c.self.invariant (omega arith)

pub returns-in_default-clause-none : goal.returns-in_default-clause-none
returns-in_default-clause-none c = λ a b others e.
    let (rest, read) = items_first c.self.inside.left c.self.inside.rest.now c.self.invariant (omega arith) (array (item a (item b no_items))) others (c.self.view_is ∙ e) in
    c.in_default.ensures.none a b rest read

pub invariant_of-self : goal.invariant_of-self
invariant_of-self c =
    items_left c.self.inside.left c.self.inside.rest.now (array (item c.in-Some.first (item c.in-Some.second no_items))) c.in-Some.rest.now c.self.invariant (omega arith) c.in-Some.ensures.two
