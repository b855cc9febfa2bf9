-- The rounds and the key schedule on forms.
use Rattle.std.proofs.Common.{◌≡◌, ℕ, zero, suc, ◌+◌, ◌-◌, ◌*◌, ◌<◌, ◌∙◌, List, [], ◌∷◌, ◌++◌, length, map, take, replicate, slice_index, bit_xor, refl, sym, ap, ap₂, arith}
use Rattle.std.proofs.lemmas.Nat.{xor_comm, xor_of_8}
use Rattle.std.proofs.lemmas.List.{get_or-take, length-map}
use Rattle.std.specs.Int.Bits.{xor_assoc}
use Rattle.std.proofs.lemmas.Simd.{zip2_splat}
use lib.Lanes.{zip2}
use Rattle.osc_aes.specs.{times_power, sub_byte, word, add_words, rot_word, sub_word, round_constant, key_expansion, sub_bytes, shift_rows, mix_columns, add_round_key, rounds, cipher, encrypt_block}
use Rattle.osc_aes.specs.Inner.Tower.{byte_of, substitute, plain_substitute}
use Rattle.osc_aes.specs.Inner.States.{turned, state_in, mixed_state, with_constant, round_key}
use Rattle.osc_aes.specs.Inner.Keys.{first_word, second_word, third_word, fourth_word, next_round_key}
use Rattle.osc_aes.proofs.Lanes.{IsBlock, lanes, explicit, lane-lt, together}
use Rattle.osc_aes.proofs.FormLaws.{byte_of-sum, byte_of-substitute, substitute-lt, plain_substitute_is}
use Rattle.osc_aes.proofs.Rounds.{picked, sums, self_left}
use Rattle.osc_aes.proofs.Schedule.{turned_word, plain_word, take-key_expansion, each_word}

turned-0 : (v : List ℕ) → length v ≡ 16 → turned 0 v ≡ v
unfolding turned
turned-0 v long =
    let here : turned 0 (lanes (slice_index v)) ≡ lanes (slice_index v) = refl in
    ap (turned 0) (explicit v long) ∙ here ∙ sym (explicit v long)

pub state_in-0 : (v : List ℕ) → length v ≡ 16 → state_in 0 v ≡ map byte_of v
unfolding state_in
state_in-0 v long = ap (map byte_of) (turned-0 v long)

-- ---- the constant of the affine map

with_twice : (k : List ℕ) → with_constant (with_constant k) ≡ k
with_twice [] = refl
with_twice (x ∷ xs) = ap₂ (λ y l. y ∷ l) (self_left 0x63 x) (with_twice xs)

-- ---- round keys added

pub added : (s w : List ℕ) (r : ℕ) → length s ≡ 16 → zip2 bit_xor s (round_key w r) ≡ add_round_key s w r
unfolding add_round_key
added s w r long =
    let at : (i j k : ℕ) → j ≡ k → bit_xor (slice_index s i) (slice_index w j) ≡ bit_xor (slice_index s i) (slice_index w k) =
    λ i j k e. ap (λ l. bit_xor (slice_index s i) (slice_index w l)) e in
    ap (λ l. zip2 bit_xor l (round_key w r)) (explicit s long)
    ∙ (
    together _ _ _ _ _ _ _ _ _ _ (at 0 _ _ (omega arith)) (at 1 _ _ (omega arith)) (at 2 _ _ (omega arith)) (at 3 _ _ (omega arith))
    (together _ _ _ _ _ _ _ _ _ _ (at 4 _ _ (omega arith)) (at 5 _ _ (omega arith)) (at 6 _ _ (omega arith)) (at 7 _ _ (omega arith))
    (together _ _ _ _ _ _ _ _ _ _ (at 8 _ _ (omega arith)) (at 9 _ _ (omega arith)) (at 10 _ _ (omega arith)) (at 11 _ _ (omega arith))
    (together _ _ _ _ _ _ _ _ _ _ (at 12 _ _ (omega arith)) (at 13 _ _ (omega arith)) (at 14 _ _ (omega arith)) (at 15 _ _ (omega arith))
    refl))))

pub with_key : (s w key : List ℕ) (r : ℕ) → length s ≡ 16 → key ≡ with_constant (round_key w r) →
    zip2 bit_xor s (with_constant key) ≡ add_round_key s w r
with_key s w key r long e = ap (zip2 bit_xor s) (ap with_constant e ∙ with_twice (round_key w r)) ∙ added s w r long

pub next_round : (block w : List ℕ) (n : ℕ) (before after key : List ℕ) →
    after ≡ zip2 bit_xor (mixed_state before) (with_constant key) → key ≡ with_constant (round_key w (n + 1)) →
    before ≡ rounds block w n → after ≡ rounds block w (suc n)
unfolding rounds mix_columns
next_round block w n before after key ea ek eb =
    ea ∙ with_key (mixed_state before) w key (n + 1) refl ek ∙ ap (λ s. add_round_key (mixed_state s) w (n + 1)) eb

pub last_of : (block w state key result : List ℕ) → result ≡ zip2 bit_xor (shift_rows (sub_bytes state)) (with_constant key) →
    key ≡ with_constant (round_key w 10) → state ≡ rounds block w 9 → result ≡ cipher block w
unfolding cipher shift_rows
last_of block w state key result er ek es =
    er ∙ with_key (shift_rows (sub_bytes state)) w key 10 refl ek ∙ ap (λ s. add_round_key (shift_rows (sub_bytes s)) w 10) es

-- round key 0 is the key
front : (key : List ℕ) → length key ≡ 16 → (i j : ℕ) → i < 16 → j ≡ i → slice_index (key_expansion key) j ≡ slice_index key i
front key long i j below e =
    ap (slice_index (key_expansion key)) e
    ∙ sym (get_or-take 16 (key_expansion key) i 0 below)
    ∙ ap (λ l. slice_index l i) (take-key_expansion key long)

pub round_key-0 : (key : List ℕ) → length key ≡ 16 → round_key (key_expansion key) 0 ≡ key
round_key-0 key long =
    let at : (i j : ℕ) → i < 16 → j ≡ i → slice_index (key_expansion key) j ≡ slice_index key i = front key long in
    (
    together _ _ _ _ _ _ _ _ _ _ (at 0 _ (omega arith) (omega arith)) (at 1 _ (omega arith) (omega arith)) (at 2 _ (omega arith) (omega arith)) (at 3 _ (omega arith) (omega arith))
    (together _ _ _ _ _ _ _ _ _ _ (at 4 _ (omega arith) (omega arith)) (at 5 _ (omega arith) (omega arith)) (at 6 _ (omega arith) (omega arith)) (at 7 _ (omega arith) (omega arith))
    (together _ _ _ _ _ _ _ _ _ _ (at 8 _ (omega arith) (omega arith)) (at 9 _ (omega arith) (omega arith)) (at 10 _ (omega arith) (omega arith)) (at 11 _ (omega arith) (omega arith))
    (together _ _ _ _ _ _ _ _ _ _ (at 12 _ (omega arith) (omega arith)) (at 13 _ (omega arith) (omega arith)) (at 14 _ (omega arith) (omega arith)) (at 15 _ (omega arith) (omega arith))
    refl))))
    ∙ sym (explicit key long)

pub first_of : (block key state : List ℕ) → length block ≡ 16 → length key ≡ 16 → state ≡ zip2 bit_xor block key →
    state ≡ rounds block (key_expansion key) 0
unfolding rounds
first_of block key state hb hk e =
    e ∙ ap (zip2 bit_xor block) (sym (round_key-0 key hk)) ∙ added block (key_expansion key) 0 hb

-- ---- the last round

plain_cell : (x k : ℕ) → x < 256 → bit_xor (plain_substitute x) k ≡ bit_xor (sub_byte (byte_of x)) (bit_xor 0x63 k)
plain_cell x k h = ap (λ y. bit_xor y k) (plain_substitute_is x h) ∙ xor_assoc (sub_byte (byte_of x)) 0x63 k

abbrev last_places : List ℕ
last_places = 0 ∷ 9 ∷ 2 ∷ 11 ∷ 4 ∷ 13 ∷ 6 ∷ 15 ∷ 8 ∷ 1 ∷ 10 ∷ 3 ∷ 12 ∷ 5 ∷ 14 ∷ 7 ∷ []

last_lanes : (x k : ℕ → ℕ) → ((i : ℕ) → x i < 256) →
    zip2 bit_xor (picked (map plain_substitute (lanes x)) last_places) (lanes k)
    ≡ zip2 bit_xor (shift_rows (sub_bytes (state_in 1 (lanes x)))) (with_constant (lanes k))
unfolding shift_rows sub_bytes state_in turned
last_lanes x k h =
    together _ _ _ _ _ _ _ _ _ _ (plain_cell (x 0) (k 0) (h 0)) (plain_cell (x 9) (k 1) (h 9)) (plain_cell (x 2) (k 2) (h 2)) (plain_cell (x 11) (k 3) (h 11))
    (together _ _ _ _ _ _ _ _ _ _ (plain_cell (x 4) (k 4) (h 4)) (plain_cell (x 13) (k 5) (h 13)) (plain_cell (x 6) (k 6) (h 6)) (plain_cell (x 15) (k 7) (h 15))
    (together _ _ _ _ _ _ _ _ _ _ (plain_cell (x 8) (k 8) (h 8)) (plain_cell (x 1) (k 9) (h 1)) (plain_cell (x 10) (k 10) (h 10)) (plain_cell (x 3) (k 11) (h 3))
    (together _ _ _ _ _ _ _ _ _ _ (plain_cell (x 12) (k 12) (h 12)) (plain_cell (x 5) (k 13) (h 5)) (plain_cell (x 14) (k 14) (h 14)) (plain_cell (x 7) (k 15) (h 7))
    refl)))

pub last_round_is : (v k p : List ℕ) → IsBlock v → IsBlock k → p ≡ map plain_substitute v →
    zip2 bit_xor (picked p last_places) k ≡ zip2 bit_xor (shift_rows (sub_bytes (state_in 1 v))) (with_constant k)
last_round_is v k p hv hk ep =
    let x : ℕ → ℕ = slice_index v in
    let y : ℕ → ℕ = slice_index k in
    ap (λ p. zip2 bit_xor (picked p last_places) k) ep
    ∙ ap₂ (λ v k. zip2 bit_xor (picked (map plain_substitute v) last_places) k) (explicit v hv.0) (explicit k hk.0)
    ∙ last_lanes x y (λ i. lane-lt v i hv.1)
    ∙ sym (ap₂ (λ v k. zip2 bit_xor (shift_rows (sub_bytes (state_in 1 v))) (with_constant k)) (explicit v hv.0) (explicit k hk.0))

-- ---- round keys for the rounds

form_of_constant : byte_of 0x5b ≡ 0x63
unfolding byte_of
form_of_constant = refl

constant_cell : (k : ℕ) → k < 256 → byte_of (bit_xor k 0x5b) ≡ bit_xor 0x63 (byte_of k)
constant_cell k h =
    byte_of-sum k 0x5b h (omega arith) ∙ ap (bit_xor (byte_of k)) form_of_constant ∙ xor_comm (byte_of k) 0x63

abbrev constants : List ℕ
constants = replicate 16 0x5b

turned_lanes_0 : (k : ℕ → ℕ) → ((i : ℕ) → k i < 256) → state_in 0 (zip2 bit_xor (lanes k) constants) ≡ with_constant (map byte_of (lanes k))
unfolding state_in turned
turned_lanes_0 k h =
    together _ _ _ _ _ _ _ _ _ _ (constant_cell (k 0) (h 0)) (constant_cell (k 1) (h 1)) (constant_cell (k 2) (h 2)) (constant_cell (k 3) (h 3))
    (together _ _ _ _ _ _ _ _ _ _ (constant_cell (k 4) (h 4)) (constant_cell (k 5) (h 5)) (constant_cell (k 6) (h 6)) (constant_cell (k 7) (h 7))
    (together _ _ _ _ _ _ _ _ _ _ (constant_cell (k 8) (h 8)) (constant_cell (k 9) (h 9)) (constant_cell (k 10) (h 10)) (constant_cell (k 11) (h 11))
    (together _ _ _ _ _ _ _ _ _ _ (constant_cell (k 12) (h 12)) (constant_cell (k 13) (h 13)) (constant_cell (k 14) (h 14)) (constant_cell (k 15) (h 15))
    refl)))

pub turned_0_is : (v : List ℕ) → IsBlock v → state_in 0 (zip2 bit_xor v constants) ≡ with_constant (map byte_of v)
turned_0_is v h =
    ap (λ v. state_in 0 (zip2 bit_xor v constants)) (explicit v h.0)
    ∙ turned_lanes_0 (slice_index v) (λ i. lane-lt v i h.1)
    ∙ sym (ap (λ v. with_constant (map byte_of v)) (explicit v h.0))

turned_lanes_1 : (k : ℕ → ℕ) → ((i : ℕ) → k i < 256) → state_in 1 (picked (zip2 bit_xor (lanes k) constants) (0 ∷ 13 ∷ 10 ∷ 7 ∷ 4 ∷ 1 ∷ 14 ∷ 11 ∷ 8 ∷ 5 ∷ 2 ∷ 15 ∷ 12 ∷ 9 ∷ 6 ∷ 3 ∷ [])) ≡ with_constant (map byte_of (lanes k))
unfolding state_in turned
turned_lanes_1 k h =
    together _ _ _ _ _ _ _ _ _ _ (constant_cell (k 0) (h 0)) (constant_cell (k 1) (h 1)) (constant_cell (k 2) (h 2)) (constant_cell (k 3) (h 3))
    (together _ _ _ _ _ _ _ _ _ _ (constant_cell (k 4) (h 4)) (constant_cell (k 5) (h 5)) (constant_cell (k 6) (h 6)) (constant_cell (k 7) (h 7))
    (together _ _ _ _ _ _ _ _ _ _ (constant_cell (k 8) (h 8)) (constant_cell (k 9) (h 9)) (constant_cell (k 10) (h 10)) (constant_cell (k 11) (h 11))
    (together _ _ _ _ _ _ _ _ _ _ (constant_cell (k 12) (h 12)) (constant_cell (k 13) (h 13)) (constant_cell (k 14) (h 14)) (constant_cell (k 15) (h 15))
    refl)))

pub turned_1_is : (v : List ℕ) → IsBlock v → state_in 1 (picked (zip2 bit_xor v constants) (0 ∷ 13 ∷ 10 ∷ 7 ∷ 4 ∷ 1 ∷ 14 ∷ 11 ∷ 8 ∷ 5 ∷ 2 ∷ 15 ∷ 12 ∷ 9 ∷ 6 ∷ 3 ∷ [])) ≡ with_constant (map byte_of v)
turned_1_is v h =
    ap (λ v. state_in 1 (picked (zip2 bit_xor v constants) (0 ∷ 13 ∷ 10 ∷ 7 ∷ 4 ∷ 1 ∷ 14 ∷ 11 ∷ 8 ∷ 5 ∷ 2 ∷ 15 ∷ 12 ∷ 9 ∷ 6 ∷ 3 ∷ []))) (explicit v h.0)
    ∙ turned_lanes_1 (slice_index v) (λ i. lane-lt v i h.1)
    ∙ sym (ap (λ v. with_constant (map byte_of v)) (explicit v h.0))

turned_lanes_2 : (k : ℕ → ℕ) → ((i : ℕ) → k i < 256) → state_in 2 (picked (zip2 bit_xor (lanes k) constants) (0 ∷ 9 ∷ 2 ∷ 11 ∷ 4 ∷ 13 ∷ 6 ∷ 15 ∷ 8 ∷ 1 ∷ 10 ∷ 3 ∷ 12 ∷ 5 ∷ 14 ∷ 7 ∷ [])) ≡ with_constant (map byte_of (lanes k))
unfolding state_in turned
turned_lanes_2 k h =
    together _ _ _ _ _ _ _ _ _ _ (constant_cell (k 0) (h 0)) (constant_cell (k 1) (h 1)) (constant_cell (k 2) (h 2)) (constant_cell (k 3) (h 3))
    (together _ _ _ _ _ _ _ _ _ _ (constant_cell (k 4) (h 4)) (constant_cell (k 5) (h 5)) (constant_cell (k 6) (h 6)) (constant_cell (k 7) (h 7))
    (together _ _ _ _ _ _ _ _ _ _ (constant_cell (k 8) (h 8)) (constant_cell (k 9) (h 9)) (constant_cell (k 10) (h 10)) (constant_cell (k 11) (h 11))
    (together _ _ _ _ _ _ _ _ _ _ (constant_cell (k 12) (h 12)) (constant_cell (k 13) (h 13)) (constant_cell (k 14) (h 14)) (constant_cell (k 15) (h 15))
    refl)))

pub turned_2_is : (v : List ℕ) → IsBlock v → state_in 2 (picked (zip2 bit_xor v constants) (0 ∷ 9 ∷ 2 ∷ 11 ∷ 4 ∷ 13 ∷ 6 ∷ 15 ∷ 8 ∷ 1 ∷ 10 ∷ 3 ∷ 12 ∷ 5 ∷ 14 ∷ 7 ∷ [])) ≡ with_constant (map byte_of v)
turned_2_is v h =
    ap (λ v. state_in 2 (picked (zip2 bit_xor v constants) (0 ∷ 9 ∷ 2 ∷ 11 ∷ 4 ∷ 13 ∷ 6 ∷ 15 ∷ 8 ∷ 1 ∷ 10 ∷ 3 ∷ 12 ∷ 5 ∷ 14 ∷ 7 ∷ []))) (explicit v h.0)
    ∙ turned_lanes_2 (slice_index v) (λ i. lane-lt v i h.1)
    ∙ sym (ap (λ v. with_constant (map byte_of v)) (explicit v h.0))

turned_lanes_3 : (k : ℕ → ℕ) → ((i : ℕ) → k i < 256) → state_in 3 (picked (zip2 bit_xor (lanes k) constants) (0 ∷ 5 ∷ 10 ∷ 15 ∷ 4 ∷ 9 ∷ 14 ∷ 3 ∷ 8 ∷ 13 ∷ 2 ∷ 7 ∷ 12 ∷ 1 ∷ 6 ∷ 11 ∷ [])) ≡ with_constant (map byte_of (lanes k))
unfolding state_in turned
turned_lanes_3 k h =
    together _ _ _ _ _ _ _ _ _ _ (constant_cell (k 0) (h 0)) (constant_cell (k 1) (h 1)) (constant_cell (k 2) (h 2)) (constant_cell (k 3) (h 3))
    (together _ _ _ _ _ _ _ _ _ _ (constant_cell (k 4) (h 4)) (constant_cell (k 5) (h 5)) (constant_cell (k 6) (h 6)) (constant_cell (k 7) (h 7))
    (together _ _ _ _ _ _ _ _ _ _ (constant_cell (k 8) (h 8)) (constant_cell (k 9) (h 9)) (constant_cell (k 10) (h 10)) (constant_cell (k 11) (h 11))
    (together _ _ _ _ _ _ _ _ _ _ (constant_cell (k 12) (h 12)) (constant_cell (k 13) (h 13)) (constant_cell (k 14) (h 14)) (constant_cell (k 15) (h 15))
    refl)))

pub turned_3_is : (v : List ℕ) → IsBlock v → state_in 3 (picked (zip2 bit_xor v constants) (0 ∷ 5 ∷ 10 ∷ 15 ∷ 4 ∷ 9 ∷ 14 ∷ 3 ∷ 8 ∷ 13 ∷ 2 ∷ 7 ∷ 12 ∷ 1 ∷ 6 ∷ 11 ∷ [])) ≡ with_constant (map byte_of v)
turned_3_is v h =
    ap (λ v. state_in 3 (picked (zip2 bit_xor v constants) (0 ∷ 5 ∷ 10 ∷ 15 ∷ 4 ∷ 9 ∷ 14 ∷ 3 ∷ 8 ∷ 13 ∷ 2 ∷ 7 ∷ 12 ∷ 1 ∷ 6 ∷ 11 ∷ []))) (explicit v h.0)
    ∙ turned_lanes_3 (slice_index v) (λ i. lane-lt v i h.1)
    ∙ sym (ap (λ v. with_constant (map byte_of v)) (explicit v h.0))

pub last_key_is : (v b : List ℕ) → length v ≡ 16 → b ≡ map byte_of v → zip2 bit_xor b (replicate 16 0x63) ≡ with_constant (map byte_of v)
last_key_is v b long e =
    zip2_splat bit_xor b 16 0x63 (ap length e ∙ length-map v byte_of ∙ long)
    ∙ ap (map (λ x. bit_xor x 0x63)) e ∙ turned_round (map byte_of v)
  where
    turned_round : (xs : List ℕ) → map (λ x. bit_xor x 0x63) xs ≡ map (bit_xor 0x63) xs
    turned_round [] = refl
    turned_round (x ∷ xs) = ap₂ (λ y l. y ∷ l) (xor_comm x 0x63) (turned_round xs)

-- ---- the next round key

-- a byte of the sum of up to four words, the constant n and a substitute
next_cell : (a b c d n s : ℕ) → a < 256 → b < 256 → c < 256 → d < 256 → n < 256 → s < 256 →
    byte_of (bit_xor (bit_xor (bit_xor (bit_xor a b) (bit_xor c d)) n) (substitute s))
    ≡ bit_xor (bit_xor (bit_xor (bit_xor (byte_of a) (byte_of b)) (bit_xor (byte_of c) (byte_of d))) (byte_of n)) (bit_xor (sub_byte (byte_of s)) 0x63)
next_cell a b c d n s ha hb hc hd hn hs =
    let ab : bit_xor a b < 256 = xor_of_8 a b ha hb in
    let cd : bit_xor c d < 256 = xor_of_8 c d hc hd in
    let all : bit_xor (bit_xor a b) (bit_xor c d) < 256 = xor_of_8 _ _ ab cd in
    byte_of-sum _ _ (xor_of_8 _ _ all hn) (substitute-lt s hs)
    ∙ ap₂ bit_xor
    (byte_of-sum _ _ all hn
    ∙ ap (λ y. bit_xor y (byte_of n)) (byte_of-sum _ _ ab cd ∙ ap₂ bit_xor (byte_of-sum a b ha hb) (byte_of-sum c d hc hd)))
    (byte_of-substitute s hs)

no_form : byte_of 0 ≡ 0
unfolding byte_of
no_form = refl

abbrev next_sum : ℕ → ℕ → ℕ → ℕ → ℕ → ℕ → ℕ
next_sum a b c d n s = byte_of (bit_xor (bit_xor (bit_xor (bit_xor a b) (bit_xor c d)) n) (substitute s))

-- what the substitute, turned, and the constant add to the first word
abbrev turned_byte : ℕ → ℕ → ℕ
turned_byte n s = bit_xor (sub_byte (byte_of s)) (bit_xor (byte_of n) 0x63)

sum_first : (a n s e : ℕ) → bit_xor (bit_xor (bit_xor (bit_xor a 0) (bit_xor 0 0)) n) (bit_xor s e) ≡ bit_xor a (bit_xor s (bit_xor n e))
sum_first a n s e = simp sums

sum_second : (a b n s e : ℕ) → bit_xor (bit_xor (bit_xor (bit_xor b a) (bit_xor 0 0)) n) (bit_xor s e) ≡ bit_xor b (bit_xor a (bit_xor s (bit_xor n e)))
sum_second a b n s e = simp sums

sum_third : (a b c n s e : ℕ) →
    bit_xor (bit_xor (bit_xor (bit_xor c b) (bit_xor a 0)) n) (bit_xor s e) ≡ bit_xor c (bit_xor b (bit_xor a (bit_xor s (bit_xor n e))))
sum_third a b c n s e = simp sums

sum_fourth : (a b c d n s e : ℕ) →
    bit_xor (bit_xor (bit_xor (bit_xor d c) (bit_xor b a)) n) (bit_xor s e)
    ≡ bit_xor d (bit_xor c (bit_xor b (bit_xor a (bit_xor s (bit_xor n e)))))
sum_fourth a b c d n s e = simp sums

in_first : (a n s : ℕ) → a < 256 → n < 256 → s < 256 → next_sum a 0 0 0 n s ≡ bit_xor (byte_of a) (turned_byte n s)
in_first a n s ha hn hs =
    next_cell a 0 0 0 n s ha (omega arith) (omega arith) (omega arith) hn hs
    ∙ ap (λ z. bit_xor (bit_xor (bit_xor (bit_xor (byte_of a) z) (bit_xor z z)) (byte_of n)) (bit_xor (sub_byte (byte_of s)) 0x63)) no_form
    ∙ sum_first (byte_of a) (byte_of n) (sub_byte (byte_of s)) 0x63

in_second : (a b n s : ℕ) → a < 256 → b < 256 → n < 256 → s < 256 →
    next_sum b a 0 0 n s ≡ bit_xor (byte_of b) (bit_xor (byte_of a) (turned_byte n s))
in_second a b n s ha hb hn hs =
    next_cell b a 0 0 n s hb ha (omega arith) (omega arith) hn hs
    ∙ ap (λ z. bit_xor (bit_xor (bit_xor (bit_xor (byte_of b) (byte_of a)) (bit_xor z z)) (byte_of n)) (bit_xor (sub_byte (byte_of s)) 0x63)) no_form
    ∙ sum_second (byte_of a) (byte_of b) (byte_of n) (sub_byte (byte_of s)) 0x63

in_third : (a b c n s : ℕ) → a < 256 → b < 256 → c < 256 → n < 256 → s < 256 →
    next_sum c b a 0 n s ≡ bit_xor (byte_of c) (bit_xor (byte_of b) (bit_xor (byte_of a) (turned_byte n s)))
in_third a b c n s ha hb hc hn hs =
    next_cell c b a 0 n s hc hb ha (omega arith) hn hs
    ∙ ap (λ z. bit_xor (bit_xor (bit_xor (bit_xor (byte_of c) (byte_of b)) (bit_xor (byte_of a) z)) (byte_of n)) (bit_xor (sub_byte (byte_of s)) 0x63)) no_form
    ∙ sum_third (byte_of a) (byte_of b) (byte_of c) (byte_of n) (sub_byte (byte_of s)) 0x63

in_fourth : (a b c d n s : ℕ) → a < 256 → b < 256 → c < 256 → d < 256 → n < 256 → s < 256 →
    next_sum d c b a n s ≡ bit_xor (byte_of d) (bit_xor (byte_of c) (bit_xor (byte_of b) (bit_xor (byte_of a) (turned_byte n s))))
in_fourth a b c d n s ha hb hc hd hn hs =
    next_cell d c b a n s hd hc hb ha hn hs
    ∙ sum_fourth (byte_of a) (byte_of b) (byte_of c) (byte_of d) (byte_of n) (sub_byte (byte_of s)) 0x63

abbrev four_times : List ℕ → List ℕ
four_times w = w ++ (w ++ (w ++ w))

abbrev last_words : List ℕ
last_words = four_times (13 ∷ 14 ∷ 15 ∷ 12 ∷ [])

abbrev first_constants : ℕ → List ℕ
first_constants n = four_times (n ∷ 0x5b ∷ 0x5b ∷ 0x5b ∷ [])

abbrev word_later : List ℕ → List ℕ
word_later v = replicate 4 0 ++ take 12 v

abbrev two_words_later : List ℕ → List ℕ
two_words_later v = replicate 8 0 ++ take 8 v

abbrev next_lanes : List ℕ → List ℕ → List ℕ → List ℕ → ℕ → List ℕ
next_lanes k s t u n = zip2 bit_xor (zip2 bit_xor (zip2 bit_xor (zip2 bit_xor k s) t) (first_constants n)) u

next_key_lanes : (k : ℕ → ℕ) (n : ℕ) → ((i : ℕ) → k i < 256) → n < 256 →
    map byte_of (next_lanes (lanes k) (word_later (lanes k)) (two_words_later (zip2 bit_xor (lanes k) (word_later (lanes k)))) (map substitute (picked (lanes k) last_words)) n)
    ≡ next_round_key (bit_xor (byte_of n) 0x63) (map byte_of (lanes k))
unfolding next_round_key byte_of
next_key_lanes k n h hn =
    together _ _ _ _ _ _ _ _ _ _ (in_first (k 0) n (k 13) (h 0) hn (h 13)) (in_first (k 1) 0x5b (k 14) (h 1) (omega arith) (h 14)) (in_first (k 2) 0x5b (k 15) (h 2) (omega arith) (h 15)) (in_first (k 3) 0x5b (k 12) (h 3) (omega arith) (h 12))
    (together _ _ _ _ _ _ _ _ _ _ (in_second (k 0) (k 4) n (k 13) (h 0) (h 4) hn (h 13)) (in_second (k 1) (k 5) 0x5b (k 14) (h 1) (h 5) (omega arith) (h 14)) (in_second (k 2) (k 6) 0x5b (k 15) (h 2) (h 6) (omega arith) (h 15)) (in_second (k 3) (k 7) 0x5b (k 12) (h 3) (h 7) (omega arith) (h 12))
    (together _ _ _ _ _ _ _ _ _ _ (in_third (k 0) (k 4) (k 8) n (k 13) (h 0) (h 4) (h 8) hn (h 13)) (in_third (k 1) (k 5) (k 9) 0x5b (k 14) (h 1) (h 5) (h 9) (omega arith) (h 14)) (in_third (k 2) (k 6) (k 10) 0x5b (k 15) (h 2) (h 6) (h 10) (omega arith) (h 15)) (in_third (k 3) (k 7) (k 11) 0x5b (k 12) (h 3) (h 7) (h 11) (omega arith) (h 12))
    (together _ _ _ _ _ _ _ _ _ _ (in_fourth (k 0) (k 4) (k 8) (k 12) n (k 13) (h 0) (h 4) (h 8) (h 12) hn (h 13)) (in_fourth (k 1) (k 5) (k 9) (k 13) 0x5b (k 14) (h 1) (h 5) (h 9) (h 13) (omega arith) (h 14)) (in_fourth (k 2) (k 6) (k 10) (k 14) 0x5b (k 15) (h 2) (h 6) (h 10) (h 14) (omega arith) (h 15)) (in_fourth (k 3) (k 7) (k 11) (k 15) 0x5b (k 12) (h 3) (h 7) (h 11) (h 15) (omega arith) (h 12))
    refl)))

pub next_key_is : (v s t u : List ℕ) (n : ℕ) → IsBlock v → n < 256 → s ≡ word_later v → t ≡ two_words_later (zip2 bit_xor v s) →
    u ≡ map substitute (picked v last_words) → map byte_of (next_lanes v s t u n) ≡ next_round_key (bit_xor (byte_of n) 0x63) (map byte_of v)
next_key_is v s t u n hv hn es et eu =
    let x : ℕ → ℕ = slice_index v in
    let all : next_lanes v s t u n ≡ next_lanes v (word_later v) (two_words_later (zip2 bit_xor v (word_later v))) (map substitute (picked v last_words)) n =
    cc (es, et, eu) in
    ap (map byte_of) all
    ∙ ap (λ v. map byte_of (next_lanes v (word_later v) (two_words_later (zip2 bit_xor v (word_later v))) (map substitute (picked v last_words)) n)) (explicit v hv.0)
    ∙ next_key_lanes x n (λ i. lane-lt v i hv.1) hn
    ∙ sym (ap (λ v. next_round_key (bit_xor (byte_of n) 0x63) (map byte_of v)) (explicit v hv.0))

-- ---- the words of the schedule, four at a time

words_of_round_key : (w : List ℕ) (r : ℕ) → round_key w r ≡ word w (4 * r) ++ word w (4 * r + 1) ++ word w (4 * r + 2) ++ word w (4 * r + 3)
words_of_round_key w r =
    let at : (j k : ℕ) → j ≡ k → slice_index w j ≡ slice_index w k = λ j k e. ap (slice_index w) e in
    together _ _ _ _ _ _ _ _ _ _ (at _ _ (omega arith)) (at _ _ (omega arith)) (at _ _ (omega arith)) (at _ _ (omega arith))
    (together _ _ _ _ _ _ _ _ _ _ (at _ _ (omega arith)) (at _ _ (omega arith)) (at _ _ (omega arith)) (at _ _ (omega arith))
    (together _ _ _ _ _ _ _ _ _ _ (at _ _ (omega arith)) (at _ _ (omega arith)) (at _ _ (omega arith)) (at _ _ (omega arith))
    (together _ _ _ _ _ _ _ _ _ _ (at _ _ (omega arith)) (at _ _ (omega arith)) (at _ _ (omega arith)) (at _ _ (omega arith))
    refl)))

four_bytes : (w : List ℕ) (a b c d e f g h : ℕ) → a ≡ e → b ≡ f → c ≡ g → d ≡ h →
    (slice_index w a ∷ slice_index w b ∷ slice_index w c ∷ slice_index w d ∷ []) ≡ (slice_index w e ∷ slice_index w f ∷ slice_index w g ∷ slice_index w h ∷ [])
four_bytes w a b c d e f g h ea eb ec ed = cc

word_of_round_key : (w : List ℕ) (r c i : ℕ) → c < 4 → i ≡ 4 * r + c → word w i ≡ word (round_key w r) c
word_of_round_key w r zero i below e = ap (word w) e ∙ four_bytes w _ _ _ _ _ _ _ _ (omega arith) (omega arith) (omega arith) (omega arith)
word_of_round_key w r (suc zero) i below e = ap (word w) e ∙ four_bytes w _ _ _ _ _ _ _ _ (omega arith) (omega arith) (omega arith) (omega arith)
word_of_round_key w r (suc (suc zero)) i below e = ap (word w) e ∙ four_bytes w _ _ _ _ _ _ _ _ (omega arith) (omega arith) (omega arith) (omega arith)
word_of_round_key w r (suc (suc (suc zero))) i below e = ap (word w) e ∙ four_bytes w _ _ _ _ _ _ _ _ (omega arith) (omega arith) (omega arith) (omega arith)
word_of_round_key w r (suc (suc (suc (suc c)))) i below e = absurd (omega arith)

-- the next round key of the schedule
pub schedule_next : (key : List ℕ) (r : ℕ) → length key ≡ 16 → r < 10 →
    round_key (key_expansion key) (r + 1) ≡ next_round_key (times_power r 1) (round_key (key_expansion key) r)
unfolding next_round_key
schedule_next key r long below =
    let w : List ℕ = key_expansion key in
    let k : List ℕ = round_key w r in
    let i : ℕ = 4 * (r + 1) in
    let before : (c j : ℕ) → c < 4 → j ≡ 4 * r + c → word w j ≡ word k c = λ c j h e. word_of_round_key w r c j h e in
    let first : word w (4 * (r + 1)) ≡ first_word (times_power r 1) k =
    each_word key (4 * (r + 1)) long (omega arith) (omega arith)
    ∙ sym (turned_word (r + 1) (word w (4 * (r + 1) - 4)) (word w (4 * (r + 1) - 1)) _ _ (omega arith) refl refl)
    ∙ ap₂ (λ a b. add_words a (add_words (sub_word (rot_word b)) (round_constant (r + 1)))) (before 0 _ (omega arith) (omega arith)) (before 3 _ (omega arith) (omega arith))
    ∙ ap (λ j. add_words (word k 0) (add_words (sub_word (rot_word (word k 3))) (times_power j 1 ∷ 0 ∷ 0 ∷ 0 ∷ []))) (let e : r + 1 - 1 ≡ r = omega arith in e) in
    let goes_on : (c j : ℕ) (p : List ℕ) → c < 4 → 0 < c → j ≡ 4 * (r + 1) + c → word w (j - 1) ≡ p → word w j ≡ add_words (word k c) p =
    λ c j p h some e ep.
    each_word key j long (omega arith) (omega arith)
    ∙ sym (plain_word j (word w (j - 4)) (word w (j - 1)) _ (omega arith) refl)
    ∙ ap₂ add_words (before c (j - 4) h (omega arith)) ep in
    let second : word w (4 * (r + 1) + 1) ≡ second_word (times_power r 1) k =
    goes_on 1 _ _ (omega arith) (omega arith) refl (ap (word w) (omega arith) ∙ first) in
    let third : word w (4 * (r + 1) + 2) ≡ third_word (times_power r 1) k =
    goes_on 2 _ _ (omega arith) (omega arith) refl (ap (word w) (omega arith) ∙ second) in
    let fourth : word w (4 * (r + 1) + 3) ≡ fourth_word (times_power r 1) k =
    goes_on 3 _ _ (omega arith) (omega arith) refl (ap (word w) (omega arith) ∙ third) in
    words_of_round_key w (r + 1)
    ∙ ap₂ (λ a l. a ++ l) first (ap₂ (λ a l. a ++ l) second (ap₂ (λ a l. a ++ l) third fourth))

-- the same on forms, from the constant n
pub forms_next : (key : List ℕ) (r : ℕ) (before after : List ℕ) (n : ℕ) → length key ≡ 16 → r < 10 → bit_xor (byte_of n) 0x63 ≡ times_power r 1 →
    map byte_of after ≡ next_round_key (bit_xor (byte_of n) 0x63) (map byte_of before) → map byte_of before ≡ round_key (key_expansion key) r →
    map byte_of after ≡ round_key (key_expansion key) (r + 1)
forms_next key r before after n long below en ea eb =
    ea ∙ ap₂ next_round_key en eb ∙ sym (schedule_next key r long below)

-- the cipher under the key that its keys are of
pub encrypted : (key block inner result : List ℕ) → inner ≡ key → result ≡ cipher block (key_expansion inner) → result ≡ encrypt_block key block
unfolding encrypt_block
encrypted key block inner result same e = e ∙ ap (λ k. cipher block (key_expansion k)) same
