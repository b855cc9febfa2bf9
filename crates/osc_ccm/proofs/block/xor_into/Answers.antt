use Rattle.std.proofs.Common.{length, ◌<◌, arith}
use Rattle.osc_ccm.proofs.XorLemmas.{xored_step}
use Rattle.osc_ccm.proofs.block.xor_into.Goals as goal

pub loop-index-preserved : goal.loop-index-preserved
loop-index-preserved c =
    let i = c.loop-index.index in
    let within : i < length c.args.bytes.now = c.loop-index-test.true in
    let fits : i < length c.args.block.now = omega arith in
    xored_step c.args.bytes.now c.args.block.now c.loop-index.bytes i within fits c.loop-index.invariant
