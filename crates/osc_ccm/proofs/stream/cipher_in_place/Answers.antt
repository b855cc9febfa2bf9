use Rattle.std.proofs.Common.{◌≡◌, ◌≤◌, ℕ, List, ◌+◌, ◌-◌, ◌*◌, length, ap, subst, ◌∙◌, arith, refl}
use Rattle.std.proofs.lemmas.Bool.Decides.{nat_tests}
use Rattle.osc_ccm.specs.{xor, key_stream, stream_block, ciphered, block_count}
use Rattle.osc_ccm.specs.Inner.Stream.{IsCiphered}
use Rattle.osc_ccm.proofs.StreamLemmas.{length-key_stream_none, ciphered_all}
use Rattle.osc_ccm.proofs.stream.cipher_in_place.Goals as goal

-- every piece was encrypted
whole : (key nonce xs ys : List ℕ) (n : ℕ) → n ≡ block_count (length xs) → IsCiphered key nonce xs n ys → ys ≡ ciphered key nonce xs
unfolding ciphered
whole key nonce xs ys n count so_far =
    let past : length xs ≤ 16 * n = omega arith in
    ciphered_all xs ys (key_stream key nonce n) (16 * n) past so_far.done ∙ ap (λ k. xor xs (key_stream key nonce k)) count

pub loop-pair-init : goal.loop-pair-init
loop-pair-init c = record { done = refl; streamed = length-key_stream_none c.args.cipher.now c.args.nonce.now }

pub returns-then-count-eq1 : goal.returns-then-count-eq1
returns-then-count-eq1 c =
    let key = c.args.cipher.now in
    let nonce = c.args.nonce.now in
    let xs = c.args.bytes.now in
    let n : ℕ = c.block_count-count.result in
    let before : 2 * c.loop-pair.pair ≡ n - 1 = grind (arith, nat_tests) in
    let count : n - 1 + 1 ≡ block_count (length xs) = omega (arith, c.block_count-count.ensures) in
    let last : n ≡ n - 1 + 1 = omega arith in
    whole key nonce xs c.cipher_piece.new.bytes (n - 1 + 1) count
    (c.cipher_piece.ensures key nonce xs (c.stream_block.ensures ∙ ap (stream_block key nonce) last)
    (subst (λ k. IsCiphered key nonce xs k c.loop-pair.bytes) before c.loop-pair.invariant))

pub returns-else-count-eq1 : goal.returns-else-count-eq1
returns-else-count-eq1 c =
    let count : 2 * c.loop-pair.pair ≡ block_count (length c.args.bytes.now) = grind (arith, nat_tests, c.block_count-count.ensures) in
    whole c.args.cipher.now c.args.nonce.now c.args.bytes.now c.loop-pair.bytes (2 * c.loop-pair.pair) count c.loop-pair.invariant
