-- Where a device begins: as a world does whose server is the device's, and whose one client is the device itself.
use Rattle.std.specs.Prelude.{◌≡◌, ◌<◌, ℕ, ◌+◌, true, false, List, [], length, Some, None}
use Rattle.osc_authz.specs.{IsRefusal, is_allowed}
use Rattle.osc_authz.specs.HoldsToken.{HoldsToken}
use Rattle.osc_cbor.specs.{spelling}
use Rattle.osc_client.specs.{PostIsTooLong}
use Rattle.osc_cose.specs.{object_item}
use Rattle.osc_model.specs.declared.algorithm.Algorithm.TheVariants.{EightByteTag}
use Rattle.osc_ccm.specs.{Sealings}
use Rattle.osc_model.specs.{has_subtrees, remembered_posts}
use Rattle.osc_scope.specs.{Entry, IsScope, scope_of}
use Rattle.osc_token.specs.{HasLawfulParts, claims_item, token_object}
use Rattle.osc_token.specs.declared.claims.Claims.{Claims}
use Rattle.osc_client.specs.State.{State as Client}
use Rattle.osc_world.specs.{Beginning, Enrols, IsPlaced, first_nodes}
use Rattle.osc_world.specs.declared.nodes.Placed.{Placed}
use Rattle.osc_world.specs.declared.start.NewHolder.{NewHolder}
use Rattle.osc_device.specs.State.{State, own_address, server_address}
use Rattle.osc_device.specs.declared.error.NewError.{NewError}
use Rattle.osc_device.specs.declared.error.NewError.TheVariants.{Id, Subtrees, Token, TooLong}
use Rattle.osc_device.specs.declared.own_token.OwnToken.{OwnToken}
use Rattle.osc_device.specs.declared.own_token.ServerParts.{ServerParts}

-- what the device's own token claims: it is for the device's server, at all times
abbrev pub own_claims : ServerParts → OwnToken → Claims
own_claims parts own = record {
  audience = parts.audience;
  not_before = None;
  expires = None;
  material = record { id = own.id; secret = own.secret; salt = []; id_context = None; alg = EightByteTag };
  scope = own.scope;
}

-- the device as a client that is to be enrolled
abbrev pub own_holder : ServerParts → OwnToken → NewHolder
own_holder parts own = record {
  at = own_address;
  way = record { next_hop = server_address; origin = None };
  claims = own_claims parts own;
  iv = own.iv;
}

-- the server alone, which keeps a place for the tokens of this id, the device's own
abbrev pub server_alone : ServerParts → List ℕ → Beginning
server_alone parts own = record {
  first = parts.tree;
  open_scope = parts.open_scope;
  key = parts.key;
  old_key = parts.old_key;
  audience = parts.audience;
  rules = record {
    revoked = parts.revoked;
    seconds = parts.context_seconds;
    remembered = remembered_posts;
    reserved = Some own;
    subtrees = parts.subtrees;
    answers = true;
  };
  server_at = server_address;
  minted = [];
  clients = [];
  proxies = [];
}

-- The post of a token of these claims would be longer than a datagram may be, whatever is drawn for it. Sealed, the text of the claims is longer by
-- a tag of 8 bytes.
pub record IsTooLongToPost (holder : NewHolder) : Type 0 where
  pub ciphertext : List ℕ
  pub sealed_size : length ciphertext ≡ length (spelling (claims_item holder.claims)) + 8
  pub placed : Placed Client
  pub client : IsPlaced holder (spelling (object_item (token_object holder.iv ciphertext))) placed
  pub too_long : PostIsTooLong placed.node

-- the token's scope reaches below its paths, which is nothing that the server takes
abbrev pub ReachesTooFar : ServerParts → OwnToken → Type 0
ReachesTooFar parts own = (parts.subtrees ≡ false) × (entries : List Entry) × IsScope own.scope entries × (has_subtrees (scope_of entries) ≡ true)

-- Why there is none: a token id that is too long; a scope that reaches too far; why the device can't be enrolled; or a token whose post fits no datagram.
abbrev pub IsNoDevice : ServerParts → OwnToken → NewError → Type 0
IsNoDevice parts own Id = 64 < length own.id
IsNoDevice parts own Subtrees = ReachesTooFar parts own
IsNoDevice parts own (Token error) = IsRefusal (own_claims parts own) error
IsNoDevice parts own TooLong = IsTooLongToPost (own_holder parts own)

-- `is_sealing algorithm` is the relation of the algorithm's cipher
module _ (is_sealing : Sealings) where
  -- the device's token is minted under the server's key, and neither has done anything yet
  pub record IsBegun (parts : ServerParts) (own : OwnToken) (device : State) : Type 0 where
    pub start : Beginning
    pub enrols : Enrols is_sealing (server_alone parts own.id) (own_holder parts own) start
    pub server : device.server ≡ (first_nodes start).server
    pub own_is : device.own ≡ enrols.placed.node

  -- The device's token has these claims and this scope, which its server takes, was minted under the server's key and for its audience, and counts at all
  -- times.
  pub record IsGranted (device : State) (claims : Claims) (entries : List Entry) : Type 0 where
    pub holds : HoldsToken (is_sealing EightByteTag) device.server.desk.key claims entries device.own.desk
    pub lawful : HasLawfulParts claims
    pub allowed : is_allowed device.server.desk.rules (scope_of entries) ≡ true
    pub audience : claims.audience ≡ device.server.desk.audience
    pub not_before : claims.not_before ≡ None
    pub expires : claims.expires ≡ None
