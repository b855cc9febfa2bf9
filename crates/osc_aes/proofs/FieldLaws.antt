-- Laws of times_x.
use Rattle.std.proofs.Common.{◌≡◌, ℕ, ◌+◌, ◌*◌, ◌%◌, ◌^◌, ◌<◌, ◌≤◌, ◌∙◌, sym, arith, bit_xor, zero-add, nat_lt, false}
use Rattle.std.proofs.lemmas.Bool.Decides.{nat_tests}
use Rattle.std.specs.Int.Bits.{xor_block}
use Rattle.osc_aes.specs.{times_x}

split : (b : ℕ) → 128 ≤ b → b < 256 → 2 * b ≡ 1 * 2 ^ 8 + b * 2 % 256
split b high fits = omega arith

over : (b : ℕ) → 128 ≤ b → nat_lt b 0x80 ≡ false
over b high = grind (arith, nat_tests)

-- a byte doubled is x^8 and the byte that is left in eight bits, where its highest bit is one
pub reduced : (b : ℕ) → 128 ≤ b → b < 256 → bit_xor (b * 2 % 256) 0x1b ≡ times_x b
unfolding times_x
reduced b high fits =
    rw (over b high) (rw (split b high fits)
    (sym (xor_block 8 1 1 (b * 2 % 256) 0x1b (omega arith) (omega arith) ∙ zero-add (bit_xor (b * 2 % 256) 0x1b))))
