-- Bytes as blocks, and blocks of a key stream.
use Rattle.std.proofs.Common.{◌≡◌, ℕ, zero, suc, ◌+◌, ◌-◌, ◌*◌, ◌<◌, ◌≤◌, List, [], ◌∷◌, ◌++◌, length, take, drop, map, fold, min, replicate, append-nil, refl, sym, ap, ◌∙◌, arith}
use Rattle.std.specs.List.{range_with_len}
use Rattle.std.proofs.lemmas.List.{length-take, take_at, drop_at, take_min, drop-replicate, drop-drop, length-drop}
use Rattle.std.proofs.lemmas.List.Sums.{fold_push}
use Rattle.std.proofs.Math.Path.{ap₂}
use Rattle.std.proofs.lemmas.List.FromFn.{map-range_with_len_more}
use Rattle.osc_ccm.specs.{xor, filled, piece, blocks, block_count, two_bytes, aad_blocks, mac_step, length-xor}

-- a whole block needs no zeros
pub filled_whole : (p : List ℕ) → length p ≡ 16 → filled p ≡ p
unfolding filled
filled_whole p h = ap (λ n. p ++ replicate (16 - n) 0) h ∙ append-nil p

-- xoring the front of a block that is filled up with zeros
pub filled_xor : (p s : List ℕ) → length p ≤ length s → xor (take (length p) (filled p)) s ++ drop (length p) (filled p) ≡ filled (xor p s)
unfolding filled
filled_xor p s h =
    let same : length (xor p s) ≡ length p = omega (arith, length-xor p s) in
    ap (λ q. xor q s ++ drop (length p) (p ++ replicate (16 - length p) 0)) (take_at p (replicate (16 - length p) 0) (length p) refl)
    ∙ ap (λ q. xor p s ++ q) (drop_at p (replicate (16 - length p) 0) (length p) refl)
    ∙ ap (λ n. xor p s ++ replicate (16 - n) 0) (sym same)

-- two bytes and at most 14 more, written into a block of zeros
pub filled_pair : (high low count : ℕ) (bytes : List ℕ) → count ≡ min (length bytes) 14 → high ∷ low ∷ (take count bytes ++ drop count (replicate 14 0)) ≡ filled (high ∷ low ∷ take 14 bytes)
unfolding filled
filled_pair high low count bytes e =
    let order : count ≡ min 14 (length bytes) = omega arith in
    let front : take count bytes ≡ take 14 bytes = ap (λ n. take n bytes) order ∙ take_min 14 bytes in
    let left : 14 - count ≡ 16 - suc (suc (length (take 14 bytes))) = omega (arith, length-take 14 bytes) in
    ap (λ l. high ∷ low ∷ (l ++ drop count (replicate {A = ℕ} 14 0))) front
    ∙ ap (λ l. high ∷ low ∷ (take 14 bytes ++ l)) (drop-replicate {X = ℕ} count 14 0 ∙ ap (λ n. replicate n 0) left)

map_shift : {X : Type 0} (f g : ℕ → X) → ((i : ℕ) → f (i + 1) ≡ g i) → (a n : ℕ) → map f (range_with_len (a + 1) n) ≡ map g (range_with_len a n)
map_shift f g same a zero = refl
map_shift f g same a (suc n) = ap₂ (λ x xs. x ∷ xs) (same a) (map_shift f g same (a + 1) n)

-- the first block, and those of the rest
pub blocks-cons : (bytes : List ℕ) → 0 < length bytes → blocks bytes ≡ filled (take 16 bytes) ∷ blocks (drop 16 bytes)
unfolding blocks
blocks-cons bytes h =
    let count : block_count (length bytes) ≡ suc (block_count (length (drop 16 bytes))) = omega (arith, length-drop 16 bytes) in
    ap (λ n. map (λ i. filled (piece bytes i)) (range_with_len 0 n)) count
    ∙ ap (λ l. filled (take 16 bytes) ∷ l)
    (map_shift (λ i. filled (piece bytes i)) (λ i. filled (piece (drop 16 bytes) i))
    (λ i. ap (λ l. filled (take 16 l)) (ap (λ n. drop n bytes) (omega arith) ∙ sym (drop-drop (16 * i) 16 bytes)))
    0 (block_count (length (drop 16 bytes))))

-- the associated data's first block, and those of the rest
pub aad_blocks-cons : (aad : List ℕ) → 0 < length aad → aad_blocks aad ≡ filled (two_bytes (length aad) ++ take 14 aad) ∷ blocks (drop 14 aad)
aad_blocks-cons [] h = absurd (omega arith)
aad_blocks-cons (byte ∷ rest) h = blocks-cons (two_bytes (length (byte ∷ rest)) ++ (byte ∷ rest)) (omega arith)

-- one block more under the CBC-MAC
pub mac_more : (key start state next : List ℕ) (f : ℕ → List ℕ) (i : ℕ) → state ≡ fold (mac_step key) start (map f (range_with_len 0 i)) → next ≡ mac_step key state (f i) → next ≡ fold (mac_step key) start (map f (range_with_len 0 (i + 1)))
mac_more key start state next f i so_far step =
    step ∙ ap (λ s. mac_step key s (f i)) so_far
    ∙ sym (fold_push (mac_step key) start (map f (range_with_len 0 i)) (f i))
    ∙ ap (fold (mac_step key) start) (sym (map-range_with_len_more f 0 i i (omega arith)))
