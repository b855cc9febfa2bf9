-- What is made of bytes is bytes.
use Rattle.std.proofs.Common.{◌≡◌, ℕ, zero, suc, ◌+◌, ◌-◌, ◌*◌, ◌/◌, ◌%◌, ◌^◌, ◌<◌, ◌==◌, Bool, true, false, nat_lt, if◌then◌else◌, List, [], ◌∷◌, length, sum_by, slice_index, bit_xor, subst, refl, inl, inr, arith, All}
use Rattle.std.proofs.Math.Nat.{mod-lt}
use Rattle.std.proofs.lemmas.Nat.{xor_of_8}
use Rattle.std.proofs.lemmas.Bool.{cases_lt}
use Rattle.std.proofs.lemmas.Bool.Decides.{nat_tests}
use Rattle.std.proofs.lemmas.List.{get_or_past}
use Rattle.std.proofs.lemmas.List.Elements.{All-nil, All-cons, All-append, All-map}
use Rattle.std.specs.List.{range_with_len}
use Rattle.osc_aes.proofs.FieldLaws.{reduced}
use Rattle.osc_aes.specs.{times_x, times_power, inverse, affine_bit, sub_byte, word, add_words, sub_word, rot_word, round_constant, schedule_word, first_words, key_expansion, cell, state_of, sub_bytes, shift_rows, add_round_key, rounds, cipher, encrypt_block}

abbrev pub AreBytes : List ℕ → Type 0
AreBytes xs = All (λ b. b < 256) xs

-- past the end a list reads 0
pub at : (xs : List ℕ) (i : ℕ) → AreBytes xs → slice_index xs i < 256
at xs i h = elim (cases_lt i (length xs)) [ inl below ↦ h i 0 below | inr past ↦ rw (get_or_past xs i 0 past) (omega arith) ]

-- eight bits make a byte
eight_bits : (f : ℕ → ℕ) → ((i : ℕ) → f i < 2) → sum_by (λ i. f i * 2 ^ i) (range_with_len 0 8) < 256
eight_bits f h = omega (arith, h 0, h 1, h 2, h 3, h 4, h 5, h 6, h 7)

pub sub_byte-lt : (b : ℕ) → sub_byte b < 256
unfolding sub_byte
sub_byte-lt b = eight_bits (affine_bit (inverse b)) (λ i. mod-lt _ (omega arith))

under : (b : ℕ) → b < 128 → nat_lt b 0x80 ≡ true
under b low = grind (arith, nat_tests)

pub times_x-lt : (b : ℕ) → b < 256 → times_x b < 256
unfolding times_x
times_x-lt b h =
    elim (cases_lt b 128) [
      | inl low ↦ rw (under b low) (omega arith)
      | inr high ↦ subst (λ x. x < 256) (reduced b high h) (xor_of_8 (b * 2 % 256) 0x1b (omega arith) (omega arith))
    ]

times_power-lt : (i b : ℕ) → b < 256 → times_power i b < 256
times_power-lt zero b h = h
times_power-lt (suc i) b h = times_x-lt (times_power i b) (times_power-lt i b h)

-- four bytes are bytes
four : (a b c d : ℕ) → a < 256 → b < 256 → c < 256 → d < 256 → AreBytes (a ∷ b ∷ c ∷ d ∷ [])
four a b c d ha hb hc hd =
    let P : ℕ → Type 0 = λ x. x < 256 in
    All-cons P a (b ∷ c ∷ d ∷ []) ha (All-cons P b (c ∷ d ∷ []) hb (All-cons P c (d ∷ []) hc (All-cons P d [] hd (All-nil P))))

add_words-bytes : (a b : List ℕ) → AreBytes a → AreBytes b → AreBytes (add_words a b)
add_words-bytes a b ha hb =
    let each : (i : ℕ) → bit_xor (slice_index a i) (slice_index b i) < 256 = λ i. xor_of_8 _ _ (at a i ha) (at b i hb) in
    four _ _ _ _ (each 0) (each 1) (each 2) (each 3)

either : (t : Bool) (a b : List ℕ) → AreBytes a → AreBytes b → AreBytes (if t then a else b)
either true a b ha hb = ha
either false a b ha hb = hb

schedule_word-bytes : (i : ℕ) (a b : List ℕ) → AreBytes a → AreBytes b → AreBytes (schedule_word i a b)
unfolding schedule_word
schedule_word-bytes i a b ha hb =
    add_words-bytes a (if i % 4 == 0 then add_words (sub_word (rot_word b)) (round_constant (i / 4)) else b) ha
    (either (i % 4 == 0) (add_words (sub_word (rot_word b)) (round_constant (i / 4))) b
    (add_words-bytes (sub_word (rot_word b)) (round_constant (i / 4))
    (four _ _ _ _ (sub_byte-lt _) (sub_byte-lt _) (sub_byte-lt _) (sub_byte-lt _))
    (four _ 0 0 0 (times_power-lt (i / 4 - 1) 1 (omega arith)) (omega arith) (omega arith) (omega arith)))
    hb)

first_words-bytes : (key : List ℕ) (n : ℕ) → AreBytes key → AreBytes (first_words key n)
unfolding first_words
first_words-bytes key zero h = h
first_words-bytes key (suc n) h =
    let w : List ℕ = first_words key n in
    let bytes : AreBytes w = first_words-bytes key n h in
    let each : (j : ℕ) → AreBytes (word w j) =
    λ j. four _ _ _ _ (at w (4 * j + 0) bytes) (at w (4 * j + 1) bytes) (at w (4 * j + 2) bytes) (at w (4 * j + 3) bytes) in
    All-append (λ b. b < 256) w (schedule_word (4 + n) (word w (4 + n - 4)) (word w (4 + n - 1))) bytes
    (schedule_word-bytes (4 + n) (word w (4 + n - 4)) (word w (4 + n - 1)) (each (4 + n - 4)) (each (4 + n - 1)))

key_expansion-bytes : (key : List ℕ) → AreBytes key → AreBytes (key_expansion key)
unfolding key_expansion
key_expansion-bytes key h = first_words-bytes key 40 h

-- a state of bytes
state_of-bytes : (f : ℕ → ℕ → ℕ) → ((r c : ℕ) → f r c < 256) → AreBytes (state_of f)
state_of-bytes f h = All-map (λ b. b < 256) (λ i. f (i % 4) (i / 4)) (range_with_len 0 16) (λ k d below. h _ _)

cell-state_of : (f : ℕ → ℕ → ℕ) → ((r c : ℕ) → f r c < 256) → (r c : ℕ) → cell (state_of f) r c < 256
cell-state_of f h r c = at (state_of f) (4 * c + r) (state_of-bytes f h)

shifted-lt : (s : List ℕ) (r c : ℕ) → cell (shift_rows (sub_bytes s)) r c < 256
unfolding shift_rows sub_bytes
shifted-lt s r c =
    cell-state_of (λ i j. cell (sub_bytes s) i ((j + i) % 4))
    (λ i j. cell-state_of (λ k l. sub_byte (cell s k l)) (λ k l. sub_byte-lt (cell s k l)) i ((j + i) % 4)) r c

pub encrypt_block-bytes : (key block : List ℕ) → AreBytes key → AreBytes (encrypt_block key block)
unfolding encrypt_block cipher add_round_key
encrypt_block-bytes key block h =
    let w : List ℕ = key_expansion key in
    let s : List ℕ = rounds block w 9 in
    state_of-bytes (λ r c. bit_xor (cell (shift_rows (sub_bytes s)) r c) (cell w r (4 * 10 + c)))
    (λ r c. xor_of_8 _ _ (shifted-lt s r c) (at w (4 * (4 * 10 + c) + r) (key_expansion-bytes key h)))

pub length-encrypt_block : (key block : List ℕ) → length (encrypt_block key block) ≡ 16
unfolding encrypt_block cipher add_round_key
length-encrypt_block key block = refl
