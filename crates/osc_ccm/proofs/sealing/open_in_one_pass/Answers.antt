use Rattle.std.proofs.Common.{◌≡◌, ◌-◌, length, take, drop, ap, sym, ◌∙◌, refl}
use Rattle.osc_ccm.specs.{ciphered, tag_of}
use Rattle.osc_ccm.proofs.GenuineLemmas.{genuine}
use Rattle.osc_ccm.proofs.sealing.open_in_one_pass.Goals as goal

pub returns-clause-genuine : goal.returns-clause-genuine
returns-clause-genuine c =
    let key = c.args.cipher.now in
    let size = c.args.size in
    let nonce = c.args.nonce.now in
    let aad = c.args.aad.now in
    let sealed = c.args.sealed.now in
    let n = length sealed - size in
    let copied : c.copy_from_slice.new.self ≡ take n sealed = c.copy_from_slice.ensures.after in
    let whole : length (ciphered key nonce (take n sealed)) ≡ length (take n sealed) =
    ap length (sym (c.open_in_place-block.ensures.bytes ∙ ap (ciphered key nonce) copied)) ∙ c.open_in_place-block.auto.bytes ∙ ap length copied in
    let decided =
    genuine key size nonce aad sealed (drop n sealed) (take size c.open_in_place-block.result) c.ends_with.result
    c.requires.long c.requires.range whole refl
    (c.open_in_place-block.ensures.tag ∙ ap (λ l. tag_of key size nonce aad (ciphered key nonce l)) copied) c.ends_with.ensures in
    (λ _. decided.0 c.if-not-ends_with.false, λ _. refl)
