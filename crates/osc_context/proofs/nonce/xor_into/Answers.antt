use Rattle.std.proofs.Common.{length, ◌<◌, arith}
use Rattle.osc_context.proofs.ListLemmas.{xored_step}
use Rattle.osc_context.proofs.nonce.xor_into.Goals as goal

pub loop-index-preserved : goal.loop-index-preserved
loop-index-preserved c =
    let i = c.loop-index.index in
    let within : i < length c.args.bytes.now = omega arith in
    let fits : i < length c.args.others.now = omega arith in
    xored_step c.args.bytes.now c.args.others.now c.loop-index.bytes i within fits c.loop-index.invariant
