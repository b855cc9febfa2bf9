-- HKDF on HMAC-SHA-256 (RFC 5869, section 2), over lists of bytes.
use Rattle.std.specs.Prelude.{ℕ, zero, suc, List, [], ◌∷◌, ◌++◌, take, replicate}
use Rattle.std.specs.List.{flat_map, range_with_len}
use Rattle.std.specs.Int.{div_ceil}
use Rattle.osc_hkdf.specs.Hmac.{hmac_of}

-- the salt, or 32 zeros where there is none (section 2.2)
abbrev pub salt_or_zeros : List ℕ → List ℕ
salt_or_zeros [] = replicate 32 0
salt_or_zeros (byte ∷ bytes) = byte ∷ bytes

-- PRK = HMAC(salt, IKM) (section 2.2)
unfoldable pub extract_of : List ℕ → List ℕ → List ℕ
extract_of salt ikm = hmac_of (salt_or_zeros salt) ikm

-- T(0) is empty, and T(i) = HMAC(PRK, T(i - 1) | info | i), where i is one byte (section 2.3)
unfoldable pub output_block : List ℕ → List ℕ → ℕ → List ℕ
output_block prk info zero = []
output_block prk info (suc i) = hmac_of prk (output_block prk info i ++ info ++ suc i ∷ [])

-- T(1) | T(2) | .. | T(n)
unfoldable pub output_blocks : List ℕ → List ℕ → ℕ → List ℕ
output_blocks prk info n = flat_map (output_block prk info) (range_with_len 1 n)

-- OKM: the first bytes of T(1) | T(2) | .. | T(n), where n blocks of 32 bytes have room for them (section 2.3)
unfoldable pub expand_of : List ℕ → List ℕ → ℕ → List ℕ
expand_of prk info length = take length (output_blocks prk info (div_ceil length 32))
