use Rattle.std.proofs.Common.{◌≤◌, ◌*◌, ◌++◌, length, drop, take, ap, ◌∙◌, arith, rules, ◌≡◌}
use Rattle.std.proofs.lemmas.List.{length-take}
use Rattle.osc_ccm.specs.{xor, filled}
use Rattle.osc_ccm.proofs.BlockLemmas.{filled_xor}
use Rattle.osc_ccm.proofs.stream.ciphered_block.Goals as goal

pub returns : goal.returns
returns c =
    let p = c.piece-piece.result.now in
    let s = c.args.key.now in
    let long : length s ≡ 16 = search rules in
    let short : length p ≤ length s = omega (arith, ap length c.piece-piece.ensures, length-take 16 (drop (16 * c.args.index) c.args.bytes.now)) in
    ap (λ l. l ++ drop (length p) c.filled-block.result) c.xor_into.ensures
    ∙ ap (λ l. xor (take (length p) l) s ++ drop (length p) l) c.filled-block.ensures
    ∙ filled_xor p s short
    ∙ ap (λ l. filled (xor l s)) c.piece-piece.ensures
