-- The substitution of bytes (FIPS 197, section 5.1.1).
use Rattle.std.specs.Prelude.{ℕ, ◌+◌, ◌*◌, ◌%◌, ◌^◌, sum_by}
use Rattle.std.specs.List.{range_with_len}
use Rattle.std.specs.Int.{bit_at}
use Rattle.osc_aes.specs.Field.{inverse}

-- bit i of the affine map of b, where bits are numbered modulo 8 and added modulo 2, and the constant c is 0x63
abbrev pub affine_bit : ℕ → ℕ → ℕ
affine_bit b i =
    (bit_at b i + bit_at b ((i + 4) % 8) + bit_at b ((i + 5) % 8) + bit_at b ((i + 6) % 8) + bit_at b ((i + 7) % 8)
    + bit_at 0x63 i) % 2

-- the affine map of b
abbrev pub affine : ℕ → ℕ
affine b = sum_by (λ i. affine_bit b i * 2 ^ i) (range_with_len 0 8)

-- SBOX: the affine map of the inverse
unfoldable pub sub_byte : ℕ → ℕ
sub_byte b = affine (inverse b)
