use Rattle.std.proofs.Common.{◌<◌, sym, arith}
use Rattle.osc_cbor.specs.Inner.Notes.{first_four}
use Rattle.osc_cbor.proofs.PrefixLaws.{prefix_less}
use Rattle.osc_cbor.proofs.keys.compare.Goals as goal

pub returns-then-prefix_of : goal.returns-then-prefix_of
returns-then-prefix_of c =
    let less : first_four c.args.a.now < first_four c.args.b.now = omega (arith, c.if-prefix_of.true, c.prefix_of.ensures.value, c.prefix_of-2.ensures.value) in
    sym (prefix_less c.args.a.now c.args.b.now c.prefix_of.ensures.fits c.prefix_of-2.ensures.fits less)
