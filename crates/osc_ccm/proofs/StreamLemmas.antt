-- The key stream block by block, and what is xored with it.
use Rattle.std.proofs.Common.{◌≡◌, ℕ, zero, suc, ◌+◌, ◌-◌, ◌*◌, ◌<◌, ◌≤◌, List, [], ◌∷◌, ◌++◌, length, take, drop, append_assoc, append-nil, min, inl, inr, refl, sym, ap, ◌∙◌, arith}
use Rattle.std.specs.List.{range_with_len, flat_map}
use Rattle.std.proofs.Math.Seq.{take-add}
use Rattle.std.proofs.lemmas.Bool.{cases_lt}
use Rattle.std.proofs.lemmas.List.{take_at, drop_at, take_all, drop_all, drop-drop, flat_map_more, map-id, length-append, length-take, length-drop}
use Rattle.std.proofs.lemmas.List.FromFn.{map-range_with_len_more}
use Rattle.osc_ccm.specs.{xor, piece, block_count, key_stream, stream_block, ciphered, length-xor}
use Rattle.osc_ccm.proofs.XorLemmas.{xor-append, take-xor, xor-take, drop-xor}

pub length-key_stream_none : (key nonce : List ℕ) → length (key_stream key nonce 0) ≡ 0
unfolding key_stream
length-key_stream_none key nonce = refl

range_more : (n : ℕ) → range_with_len 1 (n + 1) ≡ range_with_len 1 n ++ (n + 1) ∷ []
range_more n =
    sym (map-id (range_with_len 1 (n + 1)))
    ∙ map-range_with_len_more (λ i. i) 1 n (n + 1) (omega arith)
    ∙ ap (λ l. l ++ (n + 1) ∷ []) (map-id (range_with_len 1 n))

pub key_stream_more : (key nonce : List ℕ) (n : ℕ) → key_stream key nonce (n + 1) ≡ key_stream key nonce n ++ stream_block key nonce (n + 1)
unfolding key_stream
key_stream_more key nonce n =
    ap (flat_map (stream_block key nonce)) (range_more n)
    ∙ sym (flat_map_more (stream_block key nonce) [] (range_with_len 1 n) (n + 1))

pub length-key_stream_more : (key nonce : List ℕ) (n : ℕ) → length (key_stream key nonce n) ≡ 16 * n → length (stream_block key nonce (n + 1)) ≡ 16 → length (key_stream key nonce (n + 1)) ≡ 16 * (n + 1)
length-key_stream_more key nonce n so_far step =
    let both = ap length (key_stream_more key nonce n) ∙ length-append (key_stream key nonce n) (stream_block key nonce (n + 1)) in
    omega arith

-- a longer key stream begins with the shorter
abbrev pub Front : List ℕ → List ℕ → Type 0
Front whole front = (rest : List ℕ) × (whole ≡ front ++ rest)

front_more : (key nonce : List ℕ) (i d : ℕ) → Front (key_stream key nonce (i + d)) (key_stream key nonce i)
front_more key nonce i zero = ([], ap (key_stream key nonce) (omega arith) ∙ sym (append-nil (key_stream key nonce i)))
front_more key nonce i (suc d) =
    let before = front_more key nonce i d in (
      before.0 ++ stream_block key nonce (i + d + 1),
      ap (key_stream key nonce) (omega arith) ∙ key_stream_more key nonce (i + d)
          ∙ ap (λ l. l ++ stream_block key nonce (i + d + 1)) before.1
          ∙ append_assoc (key_stream key nonce i) before.0 (stream_block key nonce (i + d + 1)),
    )

key_stream_from : (key nonce : List ℕ) (i n : ℕ) → i < n → length (key_stream key nonce i) ≡ 16 * i → Front (drop (16 * i) (key_stream key nonce n)) (stream_block key nonce (i + 1))
key_stream_from key nonce i n h long =
    let front = front_more key nonce (i + 1) (n - (i + 1)) in
    let s = stream_block key nonce (i + 1) in (
      front.0,
      ap (λ k. drop (16 * i) (key_stream key nonce k)) (omega arith)
          ∙ ap (drop (16 * i)) (front.1 ∙ ap (λ l. l ++ front.0) (key_stream_more key nonce i) ∙ append_assoc (key_stream key nonce i) s front.0)
          ∙ drop_at (key_stream key nonce i) (s ++ front.0) (16 * i) long,
    )

-- a piece of what is encrypted, by its own block of the key stream
pub piece-ciphered : (key nonce bytes : List ℕ) (i : ℕ) → i < block_count (length bytes) → length (key_stream key nonce i) ≡ 16 * i → length (stream_block key nonce (i + 1)) ≡ 16 → piece (ciphered key nonce bytes) i ≡ xor (piece bytes i) (stream_block key nonce (i + 1))
unfolding ciphered
piece-ciphered key nonce bytes i h long step =
    let n = block_count (length bytes) in
    let s = stream_block key nonce (i + 1) in
    let from = key_stream_from key nonce i n h long in
    let short : length (piece bytes i) ≤ 16 = omega (arith, length-take 16 (drop (16 * i) bytes)) in
    ap (take 16) (drop-xor (16 * i) bytes (key_stream key nonce n))
    ∙ take-xor 16 (drop (16 * i) bytes) (drop (16 * i) (key_stream key nonce n))
    ∙ ap (xor (piece bytes i)) from.1
    ∙ sym (xor-take 16 (piece bytes i) (s ++ from.0) short)
    ∙ ap (xor (piece bytes i)) (take_at s from.0 16 step)

pub length-ciphered : (key nonce bytes : List ℕ) → length (key_stream key nonce (block_count (length bytes))) ≡ 16 * block_count (length bytes) → length (ciphered key nonce bytes) ≡ length bytes
unfolding ciphered
length-ciphered key nonce bytes long = omega (arith, length-xor bytes (key_stream key nonce (block_count (length bytes))))

-- encrypting in place: m bytes are done with the key stream ks, and s is its next block
pub ciphered_more : (xs ys zs ks s : List ℕ) (m : ℕ) → m ≤ length xs → length ks ≡ m → length s ≡ 16 → ys ≡ xor (take m xs) ks ++ drop m xs → zs ≡ take m ys ++ xor (take 16 (drop m ys)) s ++ drop (m + 16) ys → zs ≡ xor (take (m + 16) xs) (ks ++ s) ++ drop (m + 16) xs
ciphered_more xs ys zs ks s m within long step so_far now =
    let done = xor (take m xs) ks in
    let size : length done ≡ m = omega (arith, length-xor (take m xs) ks, length-take m xs) in
    let front : take m ys ≡ done = ap (take m) so_far ∙ take_at done (drop m xs) m size in
    let back : drop m ys ≡ drop m xs = ap (drop m) so_far ∙ drop_at done (drop m xs) m size in
    let far : drop (m + 16) ys ≡ drop (m + 16) xs = sym (drop-drop 16 m ys) ∙ ap (drop 16) back ∙ drop-drop 16 m xs in
    let same : length (take m xs) ≡ length ks = omega (arith, length-take m xs) in
    now
    ∙ ap (λ l. l ++ xor (take 16 (drop m ys)) s ++ drop (m + 16) ys) front
    ∙ ap (λ l. done ++ xor (take 16 l) s ++ drop (m + 16) ys) back
    ∙ ap (λ l. done ++ xor (take 16 (drop m xs)) s ++ l) far
    ∙ ap (λ l. l ++ drop (m + 16) xs)
    (sym (xor-append (take m xs) (take 16 (drop m xs)) ks s same) ∙ ap (λ l. xor l (ks ++ s)) (sym (take-add m 16 xs)))

-- what is not encrypted yet is as before
pub left_same : (xs ys ks : List ℕ) (m : ℕ) → m ≤ length xs → length ks ≡ m → ys ≡ xor (take m xs) ks ++ drop m xs → drop m ys ≡ drop m xs
left_same xs ys ks m within long so_far =
    let done = xor (take m xs) ks in
    let size : length done ≡ m = omega (arith, length-xor (take m xs) ks, length-take m xs) in
    ap (drop m) so_far ∙ drop_at done (drop m xs) m size

-- the piece that was encrypted last
pub piece_after : (ys zs s : List ℕ) (m : ℕ) → m ≤ length ys → length s ≡ 16 → zs ≡ take m ys ++ xor (take 16 (drop m ys)) s ++ drop (m + 16) ys → take 16 (drop m zs) ≡ xor (take 16 (drop m ys)) s
piece_after ys zs s m within step now =
    let p = xor (take 16 (drop m ys)) s in
    let front : length (take m ys) ≡ m = omega (arith, length-take m ys) in
    let size : length p ≡ min 16 (length (drop m ys)) = omega (arith, length-xor (take 16 (drop m ys)) s, length-take 16 (drop m ys)) in
    ap (λ l. take 16 (drop m l)) (now ∙ append_assoc (take m ys) p (drop (m + 16) ys))
    ∙ ap (take 16) (drop_at (take m ys) (p ++ drop (m + 16) ys) m front)
    ∙ elim (cases_lt (length (drop m ys)) 16) [
      | inl short ↦
          ap (λ l. take 16 (p ++ l)) (drop_all (m + 16) ys (omega (arith, length-drop m ys)))
          ∙ ap (take 16) (append-nil p) ∙ take_all 16 p (omega arith)
      | inr whole ↦ take_at p (drop (m + 16) ys) 16 (omega arith)
    ]

pub ciphered_all : (xs ys ks : List ℕ) (m : ℕ) → length xs ≤ m → ys ≡ xor (take m xs) ks ++ drop m xs → ys ≡ xor xs ks
ciphered_all xs ys ks m past done =
    done ∙ ap (λ l. xor l ks ++ drop m xs) (take_all m xs past)
    ∙ ap (λ l. xor xs ks ++ l) (drop_all m xs past) ∙ append-nil (xor xs ks)
