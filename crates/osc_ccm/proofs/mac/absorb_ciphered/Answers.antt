use Rattle.std.proofs.Common.{◌≡◌, ◌<◌, ◌+◌, ◌*◌, length, map, fold, ap, sym, refl, ◌∙◌, arith, rules}
use Rattle.std.specs.List.{range_with_len}
use Rattle.osc_ccm.specs.{xor, blocks, block_count, mac_step, filled, piece, ciphered, key_stream, stream_block}
use Rattle.osc_ccm.proofs.BlockLemmas.{mac_more}
use Rattle.osc_ccm.proofs.StreamLemmas.{length-key_stream_none, length-key_stream_more, piece-ciphered, length-ciphered}
use Rattle.osc_ccm.proofs.mac.absorb_ciphered.Goals as goal

pub loop-index-init : goal.loop-index-init
loop-index-init c = record {
  done = refl;
  next = λ _. c.requires.key;
  whole = search rules;
  streamed = length-key_stream_none c.args.cipher.now c.args.nonce.now;
}

pub loop-index-preserved : goal.loop-index-preserved
loop-index-preserved c =
    let key = c.args.cipher.now in
    let nonce = c.args.nonce.now in
    let bytes = c.args.bytes.now in
    let state = c.loop-index.state in
    let i = c.loop-index.index in
    let so_far = c.loop-index.invariant in
    let within : i < block_count (length bytes) = omega arith in
    let same_key = so_far.next within in
    let step : length (stream_block key nonce (i + 1)) ≡ 16 = sym (ap length same_key) ∙ so_far.whole in
    let same = piece-ciphered key nonce bytes i within so_far.streamed step in
    record {
      done = mac_more key c.args.state.now state c.step_and_next-key.new.state (λ k. filled (piece (ciphered key nonce bytes) k)) i
          so_far.done
          (c.step_and_next-key.ensures.state
          ∙ ap (mac_step key state) (c.ciphered_block-block.ensures ∙ ap (λ l. filled (xor (piece bytes i) l)) same_key ∙ ap filled (sym same)));
      next = λ more. c.step_and_next-key.ensures.stream (omega arith) ∙ ap (stream_block key nonce) (omega arith);
      whole = search rules;
      streamed = length-key_stream_more key nonce i so_far.streamed step;
    }

pub returns-clause-whole : goal.returns-clause-whole
returns-clause-whole c =
    let key = c.args.cipher.now in
    let nonce = c.args.nonce.now in
    let bytes = c.args.bytes.now in
    let count : c.loop-index.index ≡ block_count (length bytes) = omega arith in
    length-ciphered key nonce bytes (ap (λ n. length (key_stream key nonce n)) (sym count) ∙ c.loop-index.invariant.streamed ∙ ap (λ n. 16 * n) count)

pub returns-clause-state : goal.returns-clause-state
unfolding blocks
returns-clause-state c =
    let key = c.args.cipher.now in
    let nonce = c.args.nonce.now in
    let bytes = c.args.bytes.now in
    let count : c.loop-index.index ≡ block_count (length bytes) = omega arith in
    let whole = length-ciphered key nonce bytes (ap (λ n. length (key_stream key nonce n)) (sym count) ∙ c.loop-index.invariant.streamed ∙ ap (λ n. 16 * n) count) in
    c.loop-index.invariant.done
    ∙ ap (λ n. fold (mac_step key) c.args.state.now (map (λ i. filled (piece (ciphered key nonce bytes) i)) (range_with_len 0 n)))
    (count ∙ ap block_count (sym whole))
