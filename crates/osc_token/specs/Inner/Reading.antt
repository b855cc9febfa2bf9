-- What claims hold, computed from their item: the way from the code to the table of claims. No public contract rests on
-- this.
use Rattle.std.specs.Prelude.{◌≡◌, ℕ, ◌==◌, ◌&&◌, ◌||◌, Bool, true, false, nat_lt, if◌then◌else◌, List, [], length, Option, Some, None, option_map, option_and_then}
use Rattle.osc_model.specs.declared.algorithm.Algorithm.{Algorithm}
use Rattle.osc_model.specs.declared.algorithm.Algorithm.TheVariants.{EightByteTag, SixteenByteTag}
use Rattle.osc_cbor.specs.{DataItem, unsigned, negative, byte_string, map, Pairs, no_pairs, IsWhole, as_unsigned, as_map, value}
use Rattle.osc_token.specs.declared.claims.InputMaterial.{InputMaterial}
use Rattle.osc_token.specs.declared.judging.Dates.{Dates}

-- the bytes are this item, and no other
pub record IsItem (text : List ℕ) (d : DataItem) : Type 0 where
  pub whole : IsWhole text d
  pub only : (e : DataItem) → IsWhole text e → d ≡ e

-- the pairs of a map, and none of what isn't one
abbrev pub pairs_in : DataItem → Pairs
pairs_in (map pairs) = pairs
pairs_in _ = no_pairs

-- ---- dates

-- a date that may be absent, where it is a number if it is there
abbrev pub date_of : Option DataItem → Option (Option ℕ)
date_of None = Some None
date_of (Some d) = option_map Some (as_unsigned d)

-- those of a map
abbrev pub dates_in : DataItem → Option Dates
dates_in d = option_and_then (λ pairs. option_and_then (λ nbf. option_map (λ exp. record { not_before = nbf; expires = exp }) (date_of (value 4 d))) (date_of (value 5 d))) (as_map d)

-- ---- input material

-- the bytes of a byte string that has at least `least`, and no more than 64
abbrev pub sized : ℕ → DataItem → Option (List ℕ)
sized least (byte_string bytes) = if nat_lt (length bytes) least || nat_lt 64 (length bytes) then None else Some bytes
sized least _ = None

-- this number, where there is a value
abbrev pub is_absent_or : ℕ → Option DataItem → Bool
is_absent_or number None = true
is_absent_or number (Some (unsigned n)) = n == number
is_absent_or number (Some _) = false

-- HKDF with SHA-256, where it is named: 5 (HMAC 256/256) or -10 (direct+HKDF-SHA-256)
abbrev pub is_hkdf : Option DataItem → Bool
is_hkdf (Some (negative n)) = n == 9
is_hkdf other = is_absent_or 5 other

-- the fields name no version and no hash but those that are supported
abbrev pub are_known : DataItem → Bool
are_known fields = is_absent_or 1 (value 1 fields) && is_hkdf (value 3 fields)

-- an absent salt is an empty one
abbrev pub salt_of : Option DataItem → Option (List ℕ)
salt_of None = Some []
salt_of (Some d) = sized 0 d

abbrev pub id_context_of : Option DataItem → Option (Option (List ℕ))
id_context_of None = Some None
id_context_of (Some d) = option_map Some (sized 0 d)

-- the algorithm of this number
abbrev pub algorithm_numbered : ℕ → Option Algorithm
algorithm_numbered n = if n == 10 then Some EightByteTag else if n == 30 then Some SixteenByteTag else None

-- where no algorithm is named, AES-CCM-16-64-128
abbrev pub alg_of : Option DataItem → Option Algorithm
alg_of None = Some EightByteTag
alg_of (Some d) = option_and_then algorithm_numbered (as_unsigned d)

-- the material of these fields, whatever else they name
abbrev pub parts_of : DataItem → Option InputMaterial
parts_of fields =
    option_and_then (λ id. option_and_then (λ secret. option_and_then (λ salt. option_and_then (λ context. option_map
    (λ alg. record { id = id; secret = secret; salt = salt; id_context = context; alg = alg })
    (alg_of (value 4 fields))) (id_context_of (value 6 fields))) (salt_of (value 5 fields))) (option_and_then (sized 1) (value 2 fields))) (option_and_then (sized 0) (value 0 fields))

abbrev pub material_of : DataItem → Option InputMaterial
material_of fields = if are_known fields then parts_of fields else None

-- that of the claim cnf
abbrev pub material_in : DataItem → Option InputMaterial
material_in claims = option_and_then material_of (option_and_then (value 4) (value 8 claims))
