-- Partial IVs and nonces (RFC 8613 sections 5.2 and 6.1).
use Rattle.std.specs.Prelude.{ℕ, ◌-◌, ◌/◌, ◌%◌, ◌^◌, ◌==◌, if◌then◌else◌, List, [], ◌∷◌, ◌++◌, length, replicate, bit_xor}
use Rattle.std.specs.Simd.Lanes.{zip2}
use Rattle.osc_model.specs.declared.context.ContextName.{ContextName}
use Rattle.osc_context.specs.Derivation.{common_iv_of}

-- the most bytes of a sender ID: of the 13 bytes of a nonce its length takes one, and the Partial IV 5 (section 3.3)
abbrev pub longest_id : ℕ
longest_id = 7

-- the greatest sender sequence number: a Partial IV has at most 5 bytes (section 7.2.1)
abbrev pub greatest_number : ℕ
greatest_number = 2 ^ 40 - 1

-- the number in 5 bytes, the most significant first
abbrev pub five_bytes : ℕ → List ℕ
five_bytes n = n / 2 ^ 32 ∷ n / 2 ^ 24 % 256 ∷ n / 2 ^ 16 % 256 ∷ n / 2 ^ 8 % 256 ∷ n % 256 ∷ []

-- without its leading zeros, but for the last byte
abbrev pub without_zeros : List ℕ → List ℕ
without_zeros [] = []
without_zeros (b ∷ []) = b ∷ []
without_zeros (b ∷ c ∷ bytes) = if b == 0 then without_zeros (c ∷ bytes) else b ∷ c ∷ bytes

-- the Partial IV of a number below 2^40 (section 6.1)
unfoldable pub partial_iv : ℕ → List ℕ
partial_iv n = without_zeros (five_bytes n)

-- filled up with zeros on the left
abbrev pub padded : ℕ → List ℕ → List ℕ
padded size bytes = replicate (size - length bytes) 0 ++ bytes

-- the length of the ID in one byte, the ID in 7, the Partial IV in 5, xored with the common IV (section 5.2)
unfoldable pub nonce : List ℕ → List ℕ → ℕ → List ℕ
nonce common_iv id n = zip2 bit_xor (length id ∷ padded 7 id ++ padded 5 (partial_iv n)) common_iv

-- under a name: the ID is that of the end that made the Partial IV
abbrev pub nonce_of : ContextName → List ℕ → ℕ → List ℕ
nonce_of name id n = nonce (common_iv_of name) id n
