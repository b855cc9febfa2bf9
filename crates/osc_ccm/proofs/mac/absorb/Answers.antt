use Rattle.std.proofs.Common.{◌≡◌, length, map, fold, ap, ◌∙◌, arith}
use Rattle.std.specs.List.{range_with_len}
use Rattle.osc_ccm.specs.{blocks, block_count, mac_step, filled, piece}
use Rattle.osc_ccm.proofs.BlockLemmas.{mac_more}
use Rattle.osc_ccm.proofs.mac.absorb.Goals as goal

pub loop-index-preserved : goal.loop-index-preserved
loop-index-preserved c =
    let key = c.args.cipher.now in
    let state = c.loop-index.state in
    mac_more key c.args.state.now state c.mac_step.new.state (λ i. filled (piece c.args.bytes.now i)) c.loop-index.index
    c.loop-index.invariant
    (c.mac_step.ensures ∙ ap (mac_step key state) (c.block_at-block.ensures))

pub returns : goal.returns
unfolding blocks
returns c =
    let bytes = c.args.bytes.now in
    let count : c.loop-index.index ≡ block_count (length bytes) = omega arith in
    c.loop-index.invariant
    ∙ ap (λ n. fold (mac_step c.args.cipher.now) c.args.state.now (map (λ i. filled (piece bytes i)) (range_with_len 0 n))) count
