-- A client that was granted a token.
use Rattle.std.specs.Prelude.{◌≡◌, ℕ, ◌<◌, ◌^◌, List, [], length}
use Rattle.osc_cbor.specs.{spelling}
use Rattle.osc_cose.specs.{enc_structure, object_item}
use Rattle.osc_scope.specs.{Entry, IsScope}
use Rattle.osc_token.specs.{FitTheirTypes, algorithm_header, claims_item, token_object}
use Rattle.osc_token.specs.declared.claims.Claims.{Claims}
use Rattle.osc_authz.specs.declared.granted.ClientDesk.{ClientDesk}

-- The token was minted under this key, with these claims and the scope of these entries; the client has the claims' secret,
-- salt, id context and algorithm.
pub record HoldsToken (IsSealing : List ℕ → List ℕ → List ℕ → List ℕ → List ℕ → Type 0) (key : List ℕ) (claims : Claims) (entries : List Entry) (client : ClientDesk) : Type 0 where
  pub iv : List ℕ
  pub ciphertext : List ℕ
  pub iv_size : length iv ≡ 13
  pub short : length ciphertext < 2 ^ 64
  pub sealed : IsSealing key iv (enc_structure algorithm_header []) (spelling (claims_item claims)) ciphertext
  pub fit : FitTheirTypes claims
  pub is_scope : IsScope claims.scope entries
  pub token : client.token ≡ spelling (object_item (token_object iv ciphertext))
  pub token_size : length client.token < 2 ^ 64
  pub secret : client.secret ≡ claims.material.secret
  pub salt : client.salt ≡ claims.material.salt
  pub id_context : client.id_context ≡ claims.material.id_context
  pub alg : client.alg ≡ claims.material.alg
