use Rattle.std.proofs.Common.{ℕ, ◌+◌, length, replicate, ap, arith}
use Rattle.std.proofs.lemmas.List.{length-replicate}
use Rattle.osc_protect.proofs.LengthLemmas.{least_length}
use Rattle.osc_protect.proofs.sealing.seal_payload.Goals as goal

pub write_payload-requires-clause-can : goal.write_payload-requires-clause-can
write_payload-requires-clause-can g c =
    let size = length c.args.text.now + g.A.Ciphers.TAG c.args.algorithm in
    let zeros = length-replicate {A = ℕ} size 0 in
    let least = least_length c.length_of_growing.ensures.payload c.args.message.now (replicate size 0) c.requires.payload in
    let whole = ap (λ (tag : ℕ). length c.args.text.now + tag) c.tag.ensures in
    (whole, omega (arith, whole, zeros, least, c.requires.fits), c.requires.aad)
