use Rattle.std.proofs.Common.{◌≡◌, ℕ, List, ◌≤◌, ◌+◌, ◌*◌, ◌++◌, length, drop, take, ap, sym, ◌∙◌, arith, rules}
use Rattle.std.proofs.lemmas.List.{length-append, length-take, length-drop}
use Rattle.osc_ccm.specs.{xor, key_stream, stream_block, length-xor}
use Rattle.osc_ccm.specs.Inner.Stream.{IsCiphered}
use Rattle.osc_ccm.proofs.StreamLemmas.{key_stream_more, length-key_stream_more, ciphered_more}
use Rattle.osc_ccm.proofs.stream.cipher_piece.Goals as goal

-- a text has as many bytes as its beginning encrypted and the rest
same_length : (key nonce text ys : List ℕ) (n : ℕ) → IsCiphered key nonce text n ys → length ys ≡ length text
same_length key nonce text ys n so_far =
    let ks = key_stream key nonce n in
    let front = xor (take (16 * n) text) ks in
    omega (arith, so_far.streamed, ap length so_far.done, length-append front (drop (16 * n) text), length-xor (take (16 * n) text) ks, length-take (16 * n) text, length-drop (16 * n) text)

more : (key nonce xs ys zs s : List ℕ) (i : ℕ) → 16 * i ≤ length ys → length s ≡ 16 → s ≡ stream_block key nonce (i + 1) → IsCiphered key nonce xs i ys →
    zs ≡ take (16 * i) ys ++ xor (take 16 (drop (16 * i) ys)) s ++ drop (16 * i + 16) ys → IsCiphered key nonce xs (i + 1) zs
more key nonce xs ys zs s i low step es so_far now =
    let ks = key_stream key nonce i in
    let within : 16 * i ≤ length xs = omega (arith, same_length key nonce xs ys i so_far) in
    let next : 16 * (i + 1) ≡ 16 * i + 16 = omega arith in
    let grown : ks ++ s ≡ key_stream key nonce (i + 1) = ap (λ l. ks ++ l) es ∙ sym (key_stream_more key nonce i) in
    record {
      done = ciphered_more xs ys zs ks s (16 * i) within so_far.streamed step so_far.done now
          ∙ ap (λ l. xor (take (16 * i + 16) xs) l ++ drop (16 * i + 16) xs) grown
          ∙ ap (λ n. xor (take n xs) (key_stream key nonce (i + 1)) ++ drop n xs) (sym next);
      streamed = length-key_stream_more key nonce i so_far.streamed (sym (ap length es) ∙ step);
    }

pub returns : goal.returns
returns c key nonce text es so_far =
    let step : length c.args.block.now ≡ 16 = search rules in
    more key nonce text c.args.bytes.now c.xor_piece.new.bytes c.args.block.now c.args.index c.requires step es so_far c.xor_piece.ensures
