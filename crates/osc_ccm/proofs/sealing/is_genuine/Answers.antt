use Rattle.std.proofs.Common.{◌-◌, length, take, drop, refl}
use Rattle.osc_ccm.proofs.GenuineLemmas.{genuine}
use Rattle.osc_ccm.proofs.sealing.is_genuine.Goals as goal

pub returns : goal.returns
returns c =
    let sealed = c.args.sealed.now in
    let size = c.args.size in
    genuine c.args.cipher.now size c.args.nonce.now c.args.aad.now sealed (drop (length sealed - size) sealed) (take size c.tag_of_ciphertext-block.result) c.ends_with.result
    c.requires.long c.requires.range c.tag_of_ciphertext-block.ensures.whole refl c.tag_of_ciphertext-block.ensures.tag c.ends_with.ensures
