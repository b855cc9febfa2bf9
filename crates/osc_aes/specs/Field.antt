-- Bytes as elements of the field GF(2^8) (FIPS 197, section 4; sections are numbered as in the update of 2023). The
-- byte b is the polynomial with a term x^i for each bit i of b that is one.
use Rattle.std.specs.Prelude.{◌≡◌, ◌≢◌, ℕ, zero, suc, ◌*◌, ◌==◌, nat_lt, if◌then◌else◌, List, bit_xor, fold, filter, map, find, unwrap_or}
use Rattle.std.specs.List.{range_with_len}
use Rattle.std.specs.Int.{bit_at}

-- the sum of bytes (4.1)
abbrev pub total : List ℕ → ℕ
total bytes = fold bit_xor 0 bytes

-- x times b: a product with a term x^8 is reduced modulo x^8 + x^4 + x^3 + x + 1 (4.2)
unfoldable pub times_x : ℕ → ℕ
times_x b = if nat_lt b 0x80 then 2 * b else bit_xor (2 * b) 0x11b

-- x^i times b
abbrev pub times_power : ℕ → ℕ → ℕ
times_power zero b = b
times_power (suc i) b = times_x (times_power i b)

-- the exponents of the terms of a byte
abbrev pub exponents : ℕ → List ℕ
exponents a = filter (λ i. bit_at a i == 1) (range_with_len 0 8)

-- a times b: the sum of x^i times b for each term x^i of a (4.2)
abbrev pub product : ℕ → ℕ → ℕ
product a b = total (map (λ i. times_power i b) (exponents a))

-- y is the inverse of b, where 0 stands for the inverse of 0 (4.4 and 5.1.1)
abbrev pub IsInverse : ℕ → ℕ → Type 0
IsInverse b y = (b ≡ 0 → y ≡ 0) × (b ≢ 0 → product b y ≡ 1)

-- the inverse of a byte: the byte whose product with it is 1, or 0 where there is none
unfoldable pub inverse : ℕ → ℕ
inverse b = unwrap_or (find (λ y. product b y == 1) (range_with_len 0 256)) 0
