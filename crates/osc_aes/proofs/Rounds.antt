-- A round on sixteen forms.
use Rattle.std.proofs.Common.{◌≡◌, ℕ, ◌+◌, ◌*◌, ◌/◌, ◌%◌, ◌<◌, ◌∙◌, List, [], ◌∷◌, ◌++◌, map, get_or, slice_index, bit_xor, refl, sym, ap, ap₂}
use Rattle.std.proofs.lemmas.Nat.{xor_comm, xor_of_8}
use Rattle.std.specs.Int.Bits.{xor_assoc, xor_self, xor_zero_l, xor_zero_r}
use Rattle.std.specs.List.{range_with_len}
use lib.Lanes.{zip2}
use Rattle.osc_aes.specs.{times_x, total, product, sub_byte, sub_bytes, shift_rows, mix_columns}
use Rattle.osc_aes.specs.Inner.Tower.{byte_of, substitute, doubled}
use Rattle.osc_aes.specs.Inner.States.{turned, state_in, mixed_state, with_constant}
use Rattle.osc_aes.specs.declared.cipher.TheConstants.{NEXT_0, NEXT_1, NEXT_2, NEXT_3, BEFORE_0, BEFORE_1, BEFORE_2, BEFORE_3}
use Rattle.osc_aes.proofs.ByteLaws.{sub_byte-lt}
use Rattle.osc_aes.proofs.Lanes.{IsBlock, lanes, explicit, lane-lt, together}
use Rattle.osc_aes.proofs.FormLaws.{byte_of-sum, byte_of-substitute, byte_of-doubled, substitute-lt, doubled-lt, times_x-sum}

-- ---- sums in another order

pub left_comm : (a b c : ℕ) → bit_xor a (bit_xor b c) ≡ bit_xor b (bit_xor a c)
left_comm a b c = sym (xor_assoc a b c) ∙ ap (λ x. bit_xor x c) (xor_comm a b) ∙ xor_assoc b a c

pub self_left : (a b : ℕ) → bit_xor a (bit_xor a b) ≡ b
self_left a b = sym (xor_assoc a a b) ∙ ap (λ x. bit_xor x b) (xor_self a) ∙ xor_zero_l b

pub ruleset sums = (xor_assoc, xor_comm, left_comm, self_left, xor_self, xor_zero_l, xor_zero_r)

-- the constant c of the affine map and x times it, e, cancel but for one c, which is in the round key
tidy : (a b c d k p q : ℕ) (n e : ℕ) →
    bit_xor (bit_xor (bit_xor (bit_xor d n) k) (bit_xor (bit_xor b n) (bit_xor p e))) (bit_xor (bit_xor c n) (bit_xor q e))
    ≡ bit_xor (bit_xor (bit_xor (bit_xor p (bit_xor b q)) c) d) (bit_xor n k)
tidy a b c d k p q n e = simp sums

-- ---- one byte of the next state

-- from the forms of a column's bytes in its row and the three below, and that of the round key's byte
abbrev mixed_form : ℕ → ℕ → ℕ → ℕ → ℕ → ℕ
mixed_form a b c d k =
    bit_xor (bit_xor (bit_xor (substitute d) k) (bit_xor (substitute b) (doubled a))) (bit_xor (substitute c) (doubled b))

abbrev mixed_byte : ℕ → ℕ → ℕ → ℕ → ℕ
mixed_byte a b c d = bit_xor (bit_xor (bit_xor (times_x a) (bit_xor b (times_x b))) c) d

doubled_is : (x : ℕ) → x < 256 → byte_of (doubled x) ≡ bit_xor (times_x (sub_byte (byte_of x))) 0xc6
doubled_is x h = byte_of-doubled x h ∙ ap times_x (byte_of-substitute x h) ∙ times_x-sum (sub_byte (byte_of x)) (sub_byte-lt (byte_of x))

cell_is : (a b c d k : ℕ) → a < 256 → b < 256 → c < 256 → d < 256 → k < 256 →
    byte_of (mixed_form a b c d k)
    ≡ bit_xor (mixed_byte (sub_byte (byte_of a)) (sub_byte (byte_of b)) (sub_byte (byte_of c)) (sub_byte (byte_of d))) (bit_xor 0x63 (byte_of k))
cell_is a b c d k ha hb hc hd hk =
    let dk : bit_xor (substitute d) k < 256 = xor_of_8 _ _ (substitute-lt d hd) hk in
    let ba : bit_xor (substitute b) (doubled a) < 256 = xor_of_8 _ _ (substitute-lt b hb) (doubled-lt a ha) in
    let cb : bit_xor (substitute c) (doubled b) < 256 = xor_of_8 _ _ (substitute-lt c hc) (doubled-lt b hb) in
    let front : bit_xor (bit_xor (substitute d) k) (bit_xor (substitute b) (doubled a)) < 256 = xor_of_8 _ _ dk ba in
    byte_of-sum _ _ front cb
    ∙ ap₂ bit_xor
    (byte_of-sum _ _ dk ba
    ∙ ap₂ bit_xor
    (byte_of-sum (substitute d) k (substitute-lt d hd) hk ∙ ap (λ y. bit_xor y (byte_of k)) (byte_of-substitute d hd))
    (byte_of-sum (substitute b) (doubled a) (substitute-lt b hb) (doubled-lt a ha) ∙ ap₂ bit_xor (byte_of-substitute b hb) (doubled_is a ha)))
    (byte_of-sum (substitute c) (doubled b) (substitute-lt c hc) (doubled-lt b hb) ∙ ap₂ bit_xor (byte_of-substitute c hc) (doubled_is b hb))
    ∙ tidy (sub_byte (byte_of a)) (sub_byte (byte_of b)) (sub_byte (byte_of c)) (sub_byte (byte_of d)) (byte_of k) (times_x (sub_byte (byte_of a)))
    (times_x (sub_byte (byte_of b))) 0x63 0xc6

-- the same sum in the order of each row of the matrix
row_0 : (a b c d : ℕ) → mixed_byte a b c d ≡ total (product 2 a ∷ product 3 b ∷ product 1 c ∷ product 1 d ∷ [])
row_0 a b c d = simp sums

row_1 : (a b c d : ℕ) → mixed_byte a b c d ≡ total (product 1 d ∷ product 2 a ∷ product 3 b ∷ product 1 c ∷ [])
row_1 a b c d = simp sums

row_2 : (a b c d : ℕ) → mixed_byte a b c d ≡ total (product 1 c ∷ product 1 d ∷ product 2 a ∷ product 3 b ∷ [])
row_2 a b c d = simp sums

row_3 : (a b c d : ℕ) → mixed_byte a b c d ≡ total (product 3 b ∷ product 1 c ∷ product 1 d ∷ product 2 a ∷ [])
row_3 a b c d = simp sums

-- ---- a whole state

-- where the byte n rows below byte i of the next state comes from
abbrev source : ℕ → ℕ → ℕ
source n i = 5 * (4 * (i / 4) + (i + n) % 4) % 16

abbrev next_form : (ℕ → ℕ) → (ℕ → ℕ) → ℕ → ℕ
next_form x k i = mixed_form (x (source 0 i)) (x (source 1 i)) (x (source 2 i)) (x (source 3 i)) (k i)

at_0 : (x k : ℕ → ℕ) → ((i : ℕ) → x i < 256) → ((i : ℕ) → k i < 256) → (a b c d i : ℕ) →
    byte_of (mixed_form (x a) (x b) (x c) (x d) (k i))
    ≡ bit_xor (total (product 2 (sub_byte (byte_of (x a))) ∷ product 3 (sub_byte (byte_of (x b))) ∷ product 1 (sub_byte (byte_of (x c))) ∷ product 1 (sub_byte (byte_of (x d))) ∷ [])) (bit_xor 0x63 (byte_of (k i)))
at_0 x k hx hk a b c d i =
    cell_is (x a) (x b) (x c) (x d) (k i) (hx a) (hx b) (hx c) (hx d) (hk i)
    ∙ ap (λ y. bit_xor y (bit_xor 0x63 (byte_of (k i)))) (row_0 _ _ _ _)

at_1 : (x k : ℕ → ℕ) → ((i : ℕ) → x i < 256) → ((i : ℕ) → k i < 256) → (a b c d i : ℕ) →
    byte_of (mixed_form (x a) (x b) (x c) (x d) (k i))
    ≡ bit_xor (total (product 1 (sub_byte (byte_of (x d))) ∷ product 2 (sub_byte (byte_of (x a))) ∷ product 3 (sub_byte (byte_of (x b))) ∷ product 1 (sub_byte (byte_of (x c))) ∷ [])) (bit_xor 0x63 (byte_of (k i)))
at_1 x k hx hk a b c d i =
    cell_is (x a) (x b) (x c) (x d) (k i) (hx a) (hx b) (hx c) (hx d) (hk i)
    ∙ ap (λ y. bit_xor y (bit_xor 0x63 (byte_of (k i)))) (row_1 _ _ _ _)

at_2 : (x k : ℕ → ℕ) → ((i : ℕ) → x i < 256) → ((i : ℕ) → k i < 256) → (a b c d i : ℕ) →
    byte_of (mixed_form (x a) (x b) (x c) (x d) (k i))
    ≡ bit_xor (total (product 1 (sub_byte (byte_of (x c))) ∷ product 1 (sub_byte (byte_of (x d))) ∷ product 2 (sub_byte (byte_of (x a))) ∷ product 3 (sub_byte (byte_of (x b))) ∷ [])) (bit_xor 0x63 (byte_of (k i)))
at_2 x k hx hk a b c d i =
    cell_is (x a) (x b) (x c) (x d) (k i) (hx a) (hx b) (hx c) (hx d) (hk i)
    ∙ ap (λ y. bit_xor y (bit_xor 0x63 (byte_of (k i)))) (row_2 _ _ _ _)

at_3 : (x k : ℕ → ℕ) → ((i : ℕ) → x i < 256) → ((i : ℕ) → k i < 256) → (a b c d i : ℕ) →
    byte_of (mixed_form (x a) (x b) (x c) (x d) (k i))
    ≡ bit_xor (total (product 3 (sub_byte (byte_of (x b))) ∷ product 1 (sub_byte (byte_of (x c))) ∷ product 1 (sub_byte (byte_of (x d))) ∷ product 2 (sub_byte (byte_of (x a))) ∷ [])) (bit_xor 0x63 (byte_of (k i)))
at_3 x k hx hk a b c d i =
    cell_is (x a) (x b) (x c) (x d) (k i) (hx a) (hx b) (hx c) (hx d) (hk i)
    ∙ ap (λ y. bit_xor y (bit_xor 0x63 (byte_of (k i)))) (row_3 _ _ _ _)

pub next_state : (x k : ℕ → ℕ) → ((i : ℕ) → x i < 256) → ((i : ℕ) → k i < 256) →
    map byte_of (map (next_form x k) (range_with_len 0 16)) ≡ zip2 bit_xor (mixed_state (map byte_of (lanes x))) (with_constant (map byte_of (lanes k)))
unfolding mix_columns shift_rows sub_bytes
next_state x k hx hk =
    together _ _ _ _ _ _ _ _ _ _ (at_0 x k hx hk 0 5 10 15 0) (at_1 x k hx hk 5 10 15 0 1) (at_2 x k hx hk 10 15 0 5 2) (at_3 x k hx hk 15 0 5 10 3)
    (together _ _ _ _ _ _ _ _ _ _ (at_0 x k hx hk 4 9 14 3 4) (at_1 x k hx hk 9 14 3 4 5) (at_2 x k hx hk 14 3 4 9 6) (at_3 x k hx hk 3 4 9 14 7)
    (together _ _ _ _ _ _ _ _ _ _ (at_0 x k hx hk 8 13 2 7 8) (at_1 x k hx hk 13 2 7 8 9) (at_2 x k hx hk 2 7 8 13 10) (at_3 x k hx hk 7 8 13 2 11)
    (together _ _ _ _ _ _ _ _ _ _ (at_0 x k hx hk 12 1 6 11 12) (at_1 x k hx hk 1 6 11 12 13) (at_2 x k hx hk 6 11 12 1 14) (at_3 x k hx hk 11 12 1 6 15)
    refl)))

abbrev pub picked : List ℕ → List ℕ → List ℕ
picked a places = map (λ i. get_or (a ++ a) i 0) places

abbrev sum_lanes : List ℕ → List ℕ → List ℕ → List ℕ
sum_lanes next a d = zip2 bit_xor (picked a next) d

abbrev pub round_lanes : List ℕ → List ℕ → List ℕ → List ℕ → List ℕ → List ℕ
round_lanes next before a d k =
    zip2 bit_xor (zip2 bit_xor (zip2 bit_xor (picked a before) k) (sum_lanes next a d)) (picked (sum_lanes next a d) next)

turn_1 : (v k : ℕ → ℕ) →
    turned 1 (round_lanes NEXT_1 BEFORE_1 (map substitute (lanes v)) (map doubled (lanes v)) (lanes k))
    ≡ map (next_form (λ i. v ((4 * 0 + 1) * i % 16)) (λ i. k ((4 * 1 + 1) * i % 16))) (range_with_len 0 16)
unfolding turned
turn_1 v k = refl

pub round_1 : (v k a d : List ℕ) → IsBlock v → IsBlock k → a ≡ map substitute v → d ≡ map doubled v →
    state_in 1 (round_lanes NEXT_1 BEFORE_1 a d k) ≡ zip2 bit_xor (mixed_state (state_in 0 v)) (with_constant (state_in 1 k))
unfolding state_in turned
round_1 v k a d hv hk ea ed =
    let x : ℕ → ℕ = slice_index v in
    let y : ℕ → ℕ = slice_index k in
    ap₂ (λ a d. state_in 1 (round_lanes NEXT_1 BEFORE_1 a d k)) ea ed
    ∙ ap₂ (λ v k. state_in 1 (round_lanes NEXT_1 BEFORE_1 (map substitute v) (map doubled v) k)) (explicit v hv.0) (explicit k hk.0)
    ∙ ap (map byte_of) (turn_1 x y)
    ∙ next_state (λ i. x ((4 * 0 + 1) * i % 16)) (λ i. y ((4 * 1 + 1) * i % 16)) (λ i. lane-lt v _ hv.1) (λ i. lane-lt k _ hk.1)

turn_2 : (v k : ℕ → ℕ) →
    turned 2 (round_lanes NEXT_2 BEFORE_2 (map substitute (lanes v)) (map doubled (lanes v)) (lanes k))
    ≡ map (next_form (λ i. v ((4 * 1 + 1) * i % 16)) (λ i. k ((4 * 2 + 1) * i % 16))) (range_with_len 0 16)
unfolding turned
turn_2 v k = refl

pub round_2 : (v k a d : List ℕ) → IsBlock v → IsBlock k → a ≡ map substitute v → d ≡ map doubled v →
    state_in 2 (round_lanes NEXT_2 BEFORE_2 a d k) ≡ zip2 bit_xor (mixed_state (state_in 1 v)) (with_constant (state_in 2 k))
unfolding state_in turned
round_2 v k a d hv hk ea ed =
    let x : ℕ → ℕ = slice_index v in
    let y : ℕ → ℕ = slice_index k in
    ap₂ (λ a d. state_in 2 (round_lanes NEXT_2 BEFORE_2 a d k)) ea ed
    ∙ ap₂ (λ v k. state_in 2 (round_lanes NEXT_2 BEFORE_2 (map substitute v) (map doubled v) k)) (explicit v hv.0) (explicit k hk.0)
    ∙ ap (map byte_of) (turn_2 x y)
    ∙ next_state (λ i. x ((4 * 1 + 1) * i % 16)) (λ i. y ((4 * 2 + 1) * i % 16)) (λ i. lane-lt v _ hv.1) (λ i. lane-lt k _ hk.1)

turn_3 : (v k : ℕ → ℕ) →
    turned 3 (round_lanes NEXT_3 BEFORE_3 (map substitute (lanes v)) (map doubled (lanes v)) (lanes k))
    ≡ map (next_form (λ i. v ((4 * 2 + 1) * i % 16)) (λ i. k ((4 * 3 + 1) * i % 16))) (range_with_len 0 16)
unfolding turned
turn_3 v k = refl

pub round_3 : (v k a d : List ℕ) → IsBlock v → IsBlock k → a ≡ map substitute v → d ≡ map doubled v →
    state_in 3 (round_lanes NEXT_3 BEFORE_3 a d k) ≡ zip2 bit_xor (mixed_state (state_in 2 v)) (with_constant (state_in 3 k))
unfolding state_in turned
round_3 v k a d hv hk ea ed =
    let x : ℕ → ℕ = slice_index v in
    let y : ℕ → ℕ = slice_index k in
    ap₂ (λ a d. state_in 3 (round_lanes NEXT_3 BEFORE_3 a d k)) ea ed
    ∙ ap₂ (λ v k. state_in 3 (round_lanes NEXT_3 BEFORE_3 (map substitute v) (map doubled v) k)) (explicit v hv.0) (explicit k hk.0)
    ∙ ap (map byte_of) (turn_3 x y)
    ∙ next_state (λ i. x ((4 * 2 + 1) * i % 16)) (λ i. y ((4 * 3 + 1) * i % 16)) (λ i. lane-lt v _ hv.1) (λ i. lane-lt k _ hk.1)

turn_0 : (v k : ℕ → ℕ) →
    turned 0 (round_lanes NEXT_0 BEFORE_0 (map substitute (lanes v)) (map doubled (lanes v)) (lanes k))
    ≡ map (next_form (λ i. v ((4 * 3 + 1) * i % 16)) (λ i. k ((4 * 0 + 1) * i % 16))) (range_with_len 0 16)
unfolding turned
turn_0 v k = refl

pub round_0 : (v k a d : List ℕ) → IsBlock v → IsBlock k → a ≡ map substitute v → d ≡ map doubled v →
    state_in 0 (round_lanes NEXT_0 BEFORE_0 a d k) ≡ zip2 bit_xor (mixed_state (state_in 3 v)) (with_constant (state_in 0 k))
unfolding state_in turned
round_0 v k a d hv hk ea ed =
    let x : ℕ → ℕ = slice_index v in
    let y : ℕ → ℕ = slice_index k in
    ap₂ (λ a d. state_in 0 (round_lanes NEXT_0 BEFORE_0 a d k)) ea ed
    ∙ ap₂ (λ v k. state_in 0 (round_lanes NEXT_0 BEFORE_0 (map substitute v) (map doubled v) k)) (explicit v hv.0) (explicit k hk.0)
    ∙ ap (map byte_of) (turn_0 x y)
    ∙ next_state (λ i. x ((4 * 3 + 1) * i % 16)) (λ i. y ((4 * 0 + 1) * i % 16)) (λ i. lane-lt v _ hv.1) (λ i. lane-lt k _ hk.1)
