-- Tokens of numbers and bytes.
use Rattle.std.specs.Prelude.{◌≡◌, ℕ, ◌⊎◌, ◌==◌, ◌<◌, ◌≤◌, if◌then◌else◌, List, [], length, map, Option, Some, None}
use Rattle.std.specs.Str.{IsUtf8}
use Rattle.osc_model.specs.{algorithm_number}
use Rattle.osc_cbor.specs.{array, spelling}
use Rattle.osc_cose.specs.{enc_structure, object_item}
use Rattle.osc_ccm.specs.{Sealing}
use Rattle.osc_scope.specs.{entry_items, IsScopeText, Written, entry_of}
use Rattle.osc_token.specs.{most_claims, algorithm_header, claims_item, token_object}
use Rattle.osc_token.specs.declared.claims.Claims.{Claims}
use Rattle.osc_c.specs.Arguments.{IsUnfit}
use Rattle.osc_c.specs.Filling.{Room, if_fits, written}
use Rattle.osc_c.specs.Given.{GivenClaims, claims_size}
use Rattle.osc_c.specs.Granted.{IsAlgorithm, id_context_of}
use Rattle.osc_c.specs.declared.calls.outcome.Outcome.{Outcome}
use Rattle.osc_c.specs.declared.calls.outcome.Outcome.TheVariants.{BadScope, NoMemory, TooLong}

-- the bytes of the scope that a text says
abbrev pub IsScopeOf : List ℕ → List ℕ → Type 0
IsScopeOf text bytes = (entries : List Written) × IsScopeText text entries × (bytes ≡ spelling (array (entry_items (map entry_of entries))))

abbrev pub IsNoScopeText : List ℕ → Type 0
IsNoScopeText text = (entries : List Written) → ¬ (IsScopeText text entries)

-- a name, a secret and an id context of lengths that a reader takes (RFC 9203 section 3.2.1 leaves them open)
abbrev pub HaveLengths : List ℕ → List ℕ → List ℕ → Type 0
HaveLengths id secret context = (length id ≤ 64) × (1 ≤ length secret) × (length secret ≤ 64) × (length context ≤ 64)

-- these numbers and bytes are claims, whatever the text of the scope says: the size is that of the struct, and the flag is 0 or 1
abbrev pub FitsClaims : GivenClaims → Type 0
FitsClaims given =
    (given.size ≡ claims_size) × HaveLengths given.id given.secret given.context × IsAlgorithm given.algorithm × (given.has_context ≤ 1) × IsUtf8 given.audience

-- Why they are none. What can be told without memory is told first; it takes memory to tell that a text says no scope.
abbrev pub IsNoClaims : GivenClaims → Outcome → Type 0
IsNoClaims given outcome = IsUnfit (FitsClaims given) outcome ⊎ ((outcome ≡ BadScope) × FitsClaims given × IsNoScopeText given.scope)

-- why no token of these claims is minted: they are too long, whatever memory there is; or they aren't, and there was none
abbrev pub IsUnminted : Claims → Outcome → Type 0
IsUnminted claims outcome =
    ((outcome ≡ TooLong) × (most_claims < length (spelling (claims_item claims))))
    ⊎ ((outcome ≡ NoMemory) × (length (spelling (claims_item claims)) ≤ most_claims))

abbrev pub date_of : ℕ → Option ℕ
date_of seconds = if seconds == 0 then None else Some seconds

-- claims of these numbers and bytes, without a salt
abbrev pub AreClaims : GivenClaims → Claims → Type 0
AreClaims given claims =
    (claims.audience ≡ given.audience) × (claims.not_before ≡ date_of given.not_before) × (claims.expires ≡ date_of given.expires)
    × IsScopeOf given.scope claims.scope
    × (claims.material.id ≡ given.id) × (claims.material.secret ≡ given.secret) × (claims.material.salt ≡ [])
    × (claims.material.id_context ≡ id_context_of given.has_context given.context)
    × (given.algorithm ≡ algorithm_number claims.material.alg)

-- under which a token is sealed
pub record KeyAndIv : Type 0 where
  pub key : List ℕ
  pub iv : List ℕ

-- `is_sealing` is the relation of the cipher
module _ (is_sealing : Sealing) where
  -- the token of these claims, sealed under this key and IV
  abbrev pub IsMinted : KeyAndIv → Claims → List ℕ → Type 0
  IsMinted under claims token = (ciphertext : List ℕ)
      × is_sealing under.key under.iv (enc_structure algorithm_header []) (spelling (claims_item claims)) ciphertext
      × (token ≡ spelling (object_item (token_object under.iv ciphertext)))

  -- The token is written where there is room, and how many bytes it has is told; or there is none, and nothing is written.
  abbrev pub Mints : KeyAndIv → Claims → Room → Outcome → Room → Type 0
  Mints under claims room outcome filled =
      ((token : List ℕ) × IsMinted under claims token × (outcome ≡ if_fits token room.bytes) × (filled.bytes ≡ written token room.bytes)
      × (filled.size ≡ length token))
      ⊎ (IsUnminted claims outcome × (filled.bytes ≡ room.bytes) × (filled.size ≡ room.size))
