-- The key schedule (FIPS 197, section 5.2). A list of words is the list of their bytes, four for each word.
use Rattle.std.specs.Prelude.{ℕ, zero, suc, ◌+◌, ◌-◌, ◌*◌, ◌/◌, ◌%◌, ◌==◌, if◌then◌else◌, List, [], ◌∷◌, ◌++◌, map, bit_xor, slice_index}
use Rattle.std.specs.List.{range_with_len}
use Rattle.osc_aes.specs.Field.{times_power}
use Rattle.osc_aes.specs.SubBytes.{sub_byte}

-- word i of the words w
abbrev pub word : List ℕ → ℕ → List ℕ
word w i = map (λ r. slice_index w (4 * i + r)) (range_with_len 0 4)

-- the sum of two words
abbrev pub add_words : List ℕ → List ℕ → List ℕ
add_words a b = map (λ r. bit_xor (slice_index a r) (slice_index b r)) (range_with_len 0 4)

-- ROTWORD: turned left by one byte
abbrev pub rot_word : List ℕ → List ℕ
rot_word a = map (λ r. slice_index a ((r + 1) % 4)) (range_with_len 0 4)

-- SUBWORD: each byte substituted
abbrev pub sub_word : List ℕ → List ℕ
sub_word a = map sub_byte a

-- the round constant number j: x^(j-1), then three zeros
abbrev pub round_constant : ℕ → List ℕ
round_constant j = times_power (j - 1) 1 ∷ 0 ∷ 0 ∷ 0 ∷ []

-- word i, from the word four places before it and the word just before it
unfoldable pub schedule_word : ℕ → List ℕ → List ℕ → List ℕ
schedule_word i four_before before =
    add_words four_before
    (if i % 4 == 0 then add_words (sub_word (rot_word before)) (round_constant (i / 4)) else before)

-- the words w, of which there are i, and one more
abbrev pub with_next : List ℕ → ℕ → List ℕ
with_next w i = w ++ schedule_word i (word w (i - 4)) (word w (i - 1))

-- the first 4 + n words: the four of the key, and n more
unfoldable pub first_words : List ℕ → ℕ → List ℕ
first_words key zero = key
first_words key (suc n) = with_next (first_words key n) (4 + n)

-- KEYEXPANSION: all 44 words
unfoldable pub key_expansion : List ℕ → List ℕ
key_expansion key = first_words key 40
