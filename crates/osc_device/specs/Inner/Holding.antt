-- The device as a client, before it did anything.
use Rattle.std.specs.Prelude.{◌≡◌, ℕ, List, [], None}
use Rattle.osc_authz.specs.{IsDeskOf}
use Rattle.osc_authz.specs.declared.granted.ClientDesk.{ClientDesk}
use Rattle.osc_cbor.specs.{spelling}
use Rattle.osc_ccm.specs.{Sealings}
use Rattle.osc_client.specs.State.{State as Client}
use Rattle.osc_cose.specs.{enc_structure, object_item}
use Rattle.osc_message.specs.{fresh}
use Rattle.osc_model.specs.declared.algorithm.Algorithm.TheVariants.{EightByteTag}
use Rattle.osc_scope.specs.{Entry, IsScope}
use Rattle.osc_token.specs.{algorithm_header, claims_item, token_object}
use Rattle.osc_token.specs.declared.claims.Claims.{Claims}
use Rattle.osc_device.specs.State.{server_address}

-- a client that was granted this and sends straight to the device's server; it did nothing yet
abbrev pub client_with : ClientDesk → Client
client_with desk = record { desk = desk; next_hop = server_address; origin = None; context = None; waiting = None; endpoint = fresh }

-- Such a client holds the token of these claims: their text, sealed under the key and the IV.
pub record HoldsOwn (is_sealing : Sealings) (key iv : List ℕ) (claims : Claims) (client : Client) : Type 0 where
  pub entries : List Entry
  pub scope : IsScope claims.scope entries
  pub ciphertext : List ℕ
  pub sealed : is_sealing EightByteTag key iv (enc_structure algorithm_header []) (spelling (claims_item claims)) ciphertext
  pub desk : ClientDesk
  pub granted : IsDeskOf claims.material (spelling (object_item (token_object iv ciphertext))) desk
  pub is : client ≡ client_with desk
