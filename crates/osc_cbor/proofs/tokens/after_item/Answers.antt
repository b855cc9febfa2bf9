use Rattle.osc_cbor.proofs.LentLaws.{leaf_passed}
use Rattle.osc_cbor.proofs.tokens.after_item.Goals as goal

pub returns-in-Some : goal.returns-in-Some
returns-in-Some c = λ d front rest s whole.
    let (t, read, none) = c.in-Some.ensures in
    leaf_passed c.args.bytes.now t c.in-Some.after.now d front rest read none s whole
