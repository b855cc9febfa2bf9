-- The line that `osc token` prints.
use Rattle.std.specs.Prelude.{◌≡◌, ℕ, List, []}
use Rattle.hex.specs.Hex.{encode_lower}
use Rattle.osc_cbor.specs.{spelling}
use Rattle.osc_ccm.specs.{IsSealing}
use Rattle.osc_cose.specs.{enc_structure, object_item}
use Rattle.osc_token.specs.{algorithm_header, claims_item, token_object}
use Rattle.osc_token.specs.declared.claims.Claims.{Claims}
use Rattle.osc_simulation.specs.{line}

-- The bytes are a token of these claims: the object whose ciphertext is the sealing of the claims' spelling under this key
-- and IV, by AES-CCM with a tag of 8 bytes.
abbrev pub IsMinted : Claims → List ℕ → List ℕ → List ℕ → Type 0
IsMinted claims key iv bytes =
    (ciphertext : List ℕ) × IsSealing key 8 iv (enc_structure algorithm_header []) (spelling (claims_item claims)) ciphertext
    × (bytes ≡ spelling (object_item (token_object iv ciphertext)))

-- a token in hexadecimal, and a line feed
abbrev pub IsTokenLine : Claims → List ℕ → List ℕ → List ℕ → Type 0
IsTokenLine claims key iv text = (bytes : List ℕ) × IsMinted claims key iv bytes × (text ≡ line (encode_lower bytes))
