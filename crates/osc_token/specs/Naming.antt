-- The id by which a token is named: that of its input material.
use Rattle.std.specs.Prelude.{◌≡◌, ℕ, nat_lt, if◌then◌else◌, List, length, Option, Some, None, MatchOption, option_and_then}
use Rattle.osc_cbor.specs.{DataItem, IsWhole, as_bytes, value}

-- at most 64 bytes
abbrev pub within_64 : List ℕ → Option (List ℕ)
within_64 id = if nat_lt 64 (length id) then None else Some id

-- The id that claims give a token: that of the input material (id 0, RFC 9203 section 3.2.1) under the key osc 4 of the claim cnf 8 (RFC 8747
-- section 3.1).
abbrev pub id_in : DataItem → Option (List ℕ)
id_in claims =
    option_and_then within_64 (option_and_then as_bytes (option_and_then (value 0) (option_and_then (value 4) (value 8 claims))))

-- the plaintext is claims that give this id
pub record Names (plaintext id : List ℕ) : Type 0 where
  pub claims : DataItem
  pub whole : IsWhole plaintext claims
  pub id_is : id_in claims ≡ Some id

-- this is the id, or there is none
abbrev pub IsNameIn : List ℕ → Option (List ℕ) → Type 0
IsNameIn plaintext name = MatchOption name ((id : List ℕ) → ¬ Names plaintext id) (Names plaintext)
