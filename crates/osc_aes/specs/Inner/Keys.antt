-- The round keys in the form in which the rounds take them.
use Rattle.std.specs.Prelude.{◌≡◌, ℕ, List, [], ◌∷◌, ◌++◌, length}
use Rattle.osc_aes.specs.declared.key_expansion.Keys.{Keys}
use Rattle.osc_aes.specs.KeyExpansion.{word, add_words, rot_word, sub_word, key_expansion}
use Rattle.osc_aes.specs.Inner.States.{with_constant, round_key, IsRoundKey}

-- the round key after k, where the round constant's first byte is c
abbrev pub first_word : ℕ → List ℕ → List ℕ
first_word c k = add_words (word k 0) (add_words (sub_word (rot_word (word k 3))) (c ∷ 0 ∷ 0 ∷ 0 ∷ []))

abbrev pub second_word : ℕ → List ℕ → List ℕ
second_word c k = add_words (word k 1) (first_word c k)

abbrev pub third_word : ℕ → List ℕ → List ℕ
third_word c k = add_words (word k 2) (second_word c k)

abbrev pub fourth_word : ℕ → List ℕ → List ℕ
fourth_word c k = add_words (word k 3) (third_word c k)

unfoldable pub next_round_key : ℕ → List ℕ → List ℕ
next_round_key c k = first_word c k ++ second_word c k ++ third_word c k ++ fourth_word c k

-- these are the round keys of their key
pub record AreKeys (k : Keys) : Type 0 where
  pub whole : length k.key ≡ 16
  pub round_1 : IsRoundKey (key_expansion k.key) 1 k.round_1
  pub round_2 : IsRoundKey (key_expansion k.key) 2 k.round_2
  pub round_3 : IsRoundKey (key_expansion k.key) 3 k.round_3
  pub round_4 : IsRoundKey (key_expansion k.key) 4 k.round_4
  pub round_5 : IsRoundKey (key_expansion k.key) 5 k.round_5
  pub round_6 : IsRoundKey (key_expansion k.key) 6 k.round_6
  pub round_7 : IsRoundKey (key_expansion k.key) 7 k.round_7
  pub round_8 : IsRoundKey (key_expansion k.key) 8 k.round_8
  pub round_9 : IsRoundKey (key_expansion k.key) 9 k.round_9
  pub last : k.last ≡ with_constant (round_key (key_expansion k.key) 10)
