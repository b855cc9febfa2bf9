-- States and round keys as sixteen forms side by side. SHIFTROWS takes the byte at place 5 i to place i (both modulo 16),
-- and no form is moved for it: a state is turned by one more with each round.
use Rattle.std.specs.Prelude.{◌≡◌, ℕ, ◌+◌, ◌*◌, ◌%◌, List, map, bit_xor, slice_index}
use Rattle.std.specs.List.{range_with_len}
use Rattle.osc_aes.specs.Cipher.{sub_bytes, shift_rows, mix_columns}
use Rattle.osc_aes.specs.Inner.Tower.{byte_of}

-- the form at place i of a state that is turned by n is at place (4 n + 1) i
unfoldable pub turned : ℕ → List ℕ → List ℕ
turned n v = map (λ i. slice_index v ((4 * n + 1) * i % 16)) (range_with_len 0 16)

-- the state whose forms these are
unfoldable pub state_in : ℕ → List ℕ → List ℕ
state_in n v = map byte_of (turned n v)

-- SUBBYTES, SHIFTROWS and MIXCOLUMNS
abbrev pub mixed_state : List ℕ → List ℕ
mixed_state s = mix_columns (shift_rows (sub_bytes s))

-- each byte with the constant of the affine map added, which is in the round keys
abbrev pub with_constant : List ℕ → List ℕ
with_constant k = map (bit_xor 0x63) k

-- bytes 16 r to 16 r + 15 of the key schedule w
abbrev pub round_key : List ℕ → ℕ → List ℕ
round_key w r = map (λ i. slice_index w (16 * r + i)) (range_with_len 0 16)

-- the forms of round key r, turned as the state is then
abbrev pub IsRoundKey : List ℕ → ℕ → List ℕ → Type 0
IsRoundKey w r v = state_in (r % 4) v ≡ with_constant (round_key w r)
