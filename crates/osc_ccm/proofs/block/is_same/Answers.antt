use Rattle.std.proofs.Common.{length, ◌<◌, arith}
use Rattle.osc_ccm.proofs.XorLemmas.{same_more}
use Rattle.osc_ccm.proofs.block.is_same.Goals as goal

pub loop-index-preserved : goal.loop-index-preserved
loop-index-preserved c =
    let i = c.loop-index.index in
    let within : i < length c.args.one.now = c.loop-index-test.true in
    let fits : i < length c.args.other.now = omega arith in
    same_more c.args.one.now c.args.other.now i c.loop-index.difference within fits c.loop-index.invariant
