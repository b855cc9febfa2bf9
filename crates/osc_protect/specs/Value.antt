-- The value of the OSCORE option, and the one spelling of it (RFC 8613 section 6.1).
use Rattle.std.specs.Prelude.{◌≡◌, ℕ, ◌+◌, ◌<◌, ◌≤◌, ◌==◌, if◌then◌else◌, List, [], ◌∷◌, ◌++◌, length, Option, Some, None, IfSome, is_some, unwrap_or}
use Rattle.osc_context.specs.{greatest_number, partial_iv}

-- the header parameters that it holds; the Partial IV as its number
pub record Compressed : Type 0 where
  pub partial_iv : Option ℕ
  pub kid_context : Option (List ℕ)
  pub kid : Option (List ℕ)

abbrev pub partial_iv_bytes : Option ℕ → List ℕ
partial_iv_bytes None = []
partial_iv_bytes (Some n) = partial_iv n

-- its length in one byte, and the kid context
abbrev pub kid_context_bytes : Option (List ℕ) → List ℕ
kid_context_bytes None = []
kid_context_bytes (Some bytes) = length bytes ∷ bytes

-- the flag bits: how many bytes of Partial IV, whether there is a kid (bit value 8), whether a kid context (16)
abbrev pub flag_bits : Compressed → ℕ
flag_bits c = length (partial_iv_bytes c.partial_iv) + (if is_some c.kid then 8 else 0) + (if is_some c.kid_context then 16 else 0)

-- Flag bits, Partial IV, kid context, kid. Where all flag bits are zero, the value is empty.
unfoldable pub value_spelling : Compressed → List ℕ
value_spelling c =
    if flag_bits c == 0 then []
    else flag_bits c ∷ partial_iv_bytes c.partial_iv ++ kid_context_bytes c.kid_context ++ unwrap_or c.kid []

pub record HasValueSpelling (c : Compressed) : Type 0 where
  pub number : IfSome c.partial_iv (λ n. n ≤ greatest_number)
  pub kid_context : IfSome c.kid_context (λ bytes. length bytes < 256)

-- these bytes are this value
pub record SpellsValue (bytes : List ℕ) (c : Compressed) : Type 0 where
  pub lawful : HasValueSpelling c
  pub whole : bytes ≡ value_spelling c
