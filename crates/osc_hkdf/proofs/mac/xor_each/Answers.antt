use Rattle.std.proofs.Common.{◌<◌, length, bit_xor, get_or, arith}
use Rattle.std.proofs.lemmas.List.{get_or_default}
use Rattle.std.proofs.lemmas.List.Edits.{map_over_more}
use Rattle.osc_hkdf.proofs.mac.xor_each.Goals as goal

pub loop-byte-preserved : goal.loop-byte-preserved
loop-byte-preserved c =
    let ys = c.loop-byte.bytes in
    let i = c.loop-byte.byte-index in
    let inside : i < length ys = omega (arith, c.loop-byte.auto.bytes, c.loop-byte-test.true) in
    map_over_more (λ byte. bit_xor byte c.args.constant) c.args.bytes.now ys i (get_or ys i 0)
    c.loop-byte-test.true c.loop-byte.invariant (get_or_default ys i 0 (get_or ys i 0) inside)
