use Rattle.std.proofs.Common.{◌≡◌, ◌≤◌, ◌+◌, ◌*◌, ◌++◌, length, map, fold, drop, take, ap, sym, ◌∙◌, arith, refl}
use Rattle.std.specs.List.{range_with_len}
use Rattle.osc_ccm.specs.{xor, blocks, key_stream, ciphered, block_count, mac_step, filled, piece}
use Rattle.osc_ccm.proofs.BlockLemmas.{mac_more}
use Rattle.osc_ccm.proofs.StreamLemmas.{length-key_stream_none, key_stream_more, length-key_stream_more, left_same, ciphered_more, ciphered_all}
use Rattle.osc_ccm.proofs.pass.encrypt_and_absorb.Goals as goal

pub loop-index-init : goal.loop-index-init
loop-index-init c = record { absorbed = refl; done = refl; streamed = length-key_stream_none c.args.cipher.now c.args.nonce.now }

pub loop-index-preserved : goal.loop-index-preserved
loop-index-preserved c =
    let key = c.args.cipher.now in
    let nonce = c.args.nonce.now in
    let i = c.loop-index.index in
    let xs = c.args.bytes.now in
    let ys = c.loop-index.bytes in
    let so_far = c.loop-index.invariant in
    let s = c.step_and_stream-key.result in
    let ks = key_stream key nonce i in
    let within : 16 * i ≤ length xs = omega arith in
    let step : length s ≡ 16 = omega arith in
    let next : 16 * (i + 1) ≡ 16 * i + 16 = omega arith in
    let grown : ks ++ s ≡ key_stream key nonce (i + 1) = ap (λ l. ks ++ l) c.step_and_stream-key.ensures.stream ∙ sym (key_stream_more key nonce i) in
    let same : piece ys i ≡ piece xs i = ap (take 16) (left_same xs ys ks (16 * i) within so_far.streamed so_far.done) in
    record {
      absorbed = mac_more key c.args.state.now c.loop-index.state c.step_and_stream-key.new.state (λ k. filled (piece xs k)) i so_far.absorbed
          (c.step_and_stream-key.ensures.state ∙ ap (mac_step key c.loop-index.state) (c.block_at-block.ensures ∙ ap filled same));
      done = ciphered_more xs ys c.xor_piece.new.bytes ks s (16 * i) within so_far.streamed step so_far.done c.xor_piece.ensures
          ∙ ap (λ l. xor (take (16 * i + 16) xs) l ++ drop (16 * i + 16) xs) grown
          ∙ ap (λ n. xor (take n xs) (key_stream key nonce (i + 1)) ++ drop n xs) (sym next);
      streamed = length-key_stream_more key nonce i so_far.streamed (sym (ap length c.step_and_stream-key.ensures.stream) ∙ step);
    }

pub returns-clause-state : goal.returns-clause-state
unfolding blocks
returns-clause-state c =
    let xs = c.args.bytes.now in
    let count : c.loop-index.index ≡ block_count (length xs) = omega arith in
    c.loop-index.invariant.absorbed
    ∙ ap (λ n. fold (mac_step c.args.cipher.now) c.args.state.now (map (λ i. filled (piece xs i)) (range_with_len 0 n))) count

pub returns-clause-bytes : goal.returns-clause-bytes
unfolding ciphered
returns-clause-bytes c =
    let key = c.args.cipher.now in
    let nonce = c.args.nonce.now in
    let i = c.loop-index.index in
    let xs = c.args.bytes.now in
    let count : i ≡ block_count (length xs) = omega arith in
    let past : length xs ≤ 16 * i = omega arith in
    ciphered_all xs c.loop-index.bytes (key_stream key nonce i) (16 * i) past c.loop-index.invariant.done
    ∙ ap (λ n. xor xs (key_stream key nonce n)) count
