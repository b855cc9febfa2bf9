-- AES-128 of one block (FIPS 197, section 5.1). A block is a list of 16 bytes, and so is the state, a square of four
-- rows and four columns: byte i is in row i mod 4 and column i div 4 (3.4).
use Rattle.std.specs.Prelude.{ℕ, zero, suc, ◌+◌, ◌-◌, ◌*◌, ◌/◌, ◌%◌, List, [], ◌∷◌, map, bit_xor, slice_index}
use Rattle.std.specs.List.{range_with_len}
use Rattle.osc_aes.specs.Field.{total, product}
use Rattle.osc_aes.specs.SubBytes.{sub_byte}
use Rattle.osc_aes.specs.KeyExpansion.{key_expansion}

-- the byte in row r and column c
abbrev pub cell : List ℕ → ℕ → ℕ → ℕ
cell s r c = slice_index s (4 * c + r)

-- the state with the byte f r c in row r and column c
abbrev pub state_of : (ℕ → ℕ → ℕ) → List ℕ
state_of f = map (λ i. f (i % 4) (i / 4)) (range_with_len 0 16)

-- SUBBYTES: each byte substituted (5.1.1)
unfoldable pub sub_bytes : List ℕ → List ℕ
sub_bytes s = state_of (λ r c. sub_byte (cell s r c))

-- SHIFTROWS: row r turned left by r (5.1.2)
unfoldable pub shift_rows : List ℕ → List ℕ
shift_rows s = state_of (λ r c. cell s r ((c + r) % 4))

-- the circulant matrix whose first row is 02 03 01 01, at row r and column k (5.1.3)
abbrev pub matrix : ℕ → ℕ → ℕ
matrix r k = slice_index (2 ∷ 3 ∷ 1 ∷ 1 ∷ []) ((4 + k - r) % 4)

-- row r of the matrix times column c (5.1.3)
abbrev pub mixed : List ℕ → ℕ → ℕ → ℕ
mixed s r c = total (map (λ k. product (matrix r k) (cell s k c)) (range_with_len 0 4))

-- MIXCOLUMNS: each column multiplied by the matrix (5.1.3)
unfoldable pub mix_columns : List ℕ → List ℕ
mix_columns s = state_of (mixed s)

-- ADDROUNDKEY: column c has word 4 * round + c of the words w added, a column of w too (5.1.4)
unfoldable pub add_round_key : List ℕ → List ℕ → ℕ → List ℕ
add_round_key s w round = state_of (λ r c. bit_xor (cell s r c) (cell w r (4 * round + c)))

-- the state after the first n rounds
unfoldable pub rounds : List ℕ → List ℕ → ℕ → List ℕ
rounds block w zero = add_round_key block w 0
rounds block w (suc n) = add_round_key (mix_columns (shift_rows (sub_bytes (rounds block w n)))) w (n + 1)

-- CIPHER: ten rounds, the last without MIXCOLUMNS
unfoldable pub cipher : List ℕ → List ℕ → List ℕ
cipher block w = add_round_key (shift_rows (sub_bytes (rounds block w 9))) w 10

-- a block of 16 bytes under a key of 16 bytes
unfoldable pub encrypt_block : List ℕ → List ℕ → List ℕ
encrypt_block key block = cipher block (key_expansion key)
