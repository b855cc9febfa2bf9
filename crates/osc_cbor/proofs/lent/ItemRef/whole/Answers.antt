use Rattle.osc_cbor.proofs.LentLaws.{item_in_is, whole_in}
use Rattle.osc_cbor.proofs.lent.ItemRef.whole.Goals as goal

pub invariant_of-result : goal.invariant_of-result
invariant_of-result c =
    let (d, w) = c.is_whole.ensures.0 c.if-not-is_whole.false in
    whole_in c.args.bytes.now d w

pub returns : goal.returns
returns c =
    let (d, w) = c.is_whole.ensures.0 c.if-not-is_whole.false in
    (whole_in c.args.bytes.now d w, λ e is. item_in_is c.args.bytes.now e is)
