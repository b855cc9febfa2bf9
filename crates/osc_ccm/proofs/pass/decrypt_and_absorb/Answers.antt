use Rattle.std.proofs.Common.{◌≡◌, ◌<◌, ◌≤◌, ◌+◌, ◌*◌, ◌++◌, length, map, fold, drop, take, ap, sym, ◌∙◌, arith, rules, refl}
use Rattle.std.specs.List.{range_with_len}
use Rattle.osc_ccm.specs.{xor, blocks, key_stream, stream_block, ciphered, block_count, mac_step, filled, piece}
use Rattle.osc_ccm.proofs.BlockLemmas.{mac_more}
use Rattle.osc_ccm.proofs.StreamLemmas.{length-key_stream_none, key_stream_more, length-key_stream_more, left_same, piece_after, piece-ciphered, length-ciphered, ciphered_more, ciphered_all}
use Rattle.osc_ccm.proofs.pass.decrypt_and_absorb.Goals as goal

pub loop-index-init : goal.loop-index-init
loop-index-init c = record {
  absorbed = refl;
  done = refl;
  next = λ _. c.requires.key;
  whole = search rules;
  streamed = length-key_stream_none c.args.cipher.now c.args.nonce.now;
}

pub loop-index-preserved : goal.loop-index-preserved
loop-index-preserved c =
    let key = c.args.cipher.now in
    let nonce = c.args.nonce.now in
    let i = c.loop-index.index in
    let xs = c.args.bytes.now in
    let ys = c.loop-index.bytes in
    let zs = c.xor_piece.new.bytes in
    let so_far = c.loop-index.invariant in
    let s = c.loop-index.key in
    let ks = key_stream key nonce i in
    let within : 16 * i ≤ length xs = omega arith in
    let below : i < block_count (length xs) = omega arith in
    let long : 16 * i ≤ length ys = omega arith in
    let step : length s ≡ 16 = so_far.whole in
    let one : length (stream_block key nonce (i + 1)) ≡ 16 = sym (ap length (so_far.next below)) ∙ step in
    let next : 16 * (i + 1) ≡ 16 * i + 16 = omega arith in
    let grown : ks ++ s ≡ key_stream key nonce (i + 1) = ap (λ l. ks ++ l) (so_far.next below) ∙ sym (key_stream_more key nonce i) in
    let plain : piece zs i ≡ piece (ciphered key nonce xs) i =
    piece_after ys zs s (16 * i) long step c.xor_piece.ensures
    ∙ ap (λ l. xor (take 16 l) s) (left_same xs ys ks (16 * i) within so_far.streamed so_far.done)
    ∙ ap (xor (piece xs i)) (so_far.next below)
    ∙ sym (piece-ciphered key nonce xs i below so_far.streamed one) in
    record {
      absorbed = mac_more key c.args.state.now c.loop-index.state c.step_and_next-key.new.state (λ k. filled (piece (ciphered key nonce xs) k)) i so_far.absorbed
          (c.step_and_next-key.ensures.state ∙ ap (mac_step key c.loop-index.state) (c.block_at-block.ensures ∙ ap filled plain));
      done = ciphered_more xs ys zs ks s (16 * i) within so_far.streamed step so_far.done c.xor_piece.ensures
          ∙ ap (λ l. xor (take (16 * i + 16) xs) l ++ drop (16 * i + 16) xs) grown
          ∙ ap (λ n. xor (take n xs) (key_stream key nonce (i + 1)) ++ drop n xs) (sym next);
      next = λ more. c.step_and_next-key.ensures.stream (omega arith) ∙ ap (stream_block key nonce) (omega arith);
      whole = search rules;
      streamed = length-key_stream_more key nonce i so_far.streamed one;
    }

pub returns-clause-state : goal.returns-clause-state
unfolding blocks
returns-clause-state c =
    let key = c.args.cipher.now in
    let nonce = c.args.nonce.now in
    let xs = c.args.bytes.now in
    let i = c.loop-index.index in
    let count : i ≡ block_count (length xs) = omega arith in
    let whole = length-ciphered key nonce xs (ap (λ n. length (key_stream key nonce n)) (sym count) ∙ c.loop-index.invariant.streamed ∙ ap (λ n. 16 * n) count) in
    c.loop-index.invariant.absorbed
    ∙ ap (λ n. fold (mac_step key) c.args.state.now (map (λ k. filled (piece (ciphered key nonce xs) k)) (range_with_len 0 n)))
    (count ∙ ap block_count (sym whole))

pub returns-clause-bytes : goal.returns-clause-bytes
unfolding ciphered
returns-clause-bytes c =
    let key = c.args.cipher.now in
    let nonce = c.args.nonce.now in
    let i = c.loop-index.index in
    let xs = c.args.bytes.now in
    let count : i ≡ block_count (length xs) = omega arith in
    let past : length xs ≤ 16 * i = omega arith in
    ciphered_all xs c.loop-index.bytes (key_stream key nonce i) (16 * i) past c.loop-index.invariant.done
    ∙ ap (λ n. xor xs (key_stream key nonce n)) count
