-- Where a world begins.
use Rattle.std.specs.Prelude.{◌≡◌, ℕ, List, [], ◌∷◌, ◌++◌, length, Option, Some, None, slice_get}
use Rattle.osc_model.specs.Scope.{Scope}
use Rattle.osc_model.specs.Tree.{Tree}
use Rattle.osc_model.specs.declared.algorithm.Algorithm.TheVariants.{EightByteTag}
use Rattle.osc_model.specs.declared.node.Peer.{Peer}
use Rattle.osc_cbor.specs.{spelling}
use Rattle.osc_cose.specs.{enc_structure, object_item}
use Rattle.osc_scope.specs.{Entry, IsScope, scope_of}
use Rattle.osc_token.specs.{algorithm_header, claims_item, token_object}
use Rattle.osc_token.specs.declared.claims.Claims.{Claims}
use Rattle.osc_authz.specs.{In, IsDeskOf}
use Rattle.osc_message.specs.{fresh}
use Rattle.osc_ccm.specs.{Sealings}
use Rattle.osc_run.specs.{IsNewClient, IsTextOf, Minted}
use Rattle.osc_client.specs.{core}
use Rattle.osc_client.specs.State.{State as Client}
use Rattle.osc_proxy.specs.{none_open}
use Rattle.osc_proxy.specs.declared.targets.Target.{Target}
use Rattle.osc_proxy.specs.State.{State as Proxy}
use Rattle.osc_authz.specs.declared.rules.ContextRules.{ContextRules}
use Rattle.osc_world.specs.Nodes.{NodeStates, places}
use Rattle.osc_world.specs.Worlds.{State}
use Rattle.osc_world.specs.declared.nodes.Placed.{Placed}
use Rattle.osc_world.specs.declared.start.NewHolder.{NewHolder}

-- the resources; what needs no protection; the key of tokens, the former key, if tokens under that are taken, and for whom they are; what
-- the server rules for its contexts, and where it is; the grants with the texts of their tokens; and the
-- clients and the proxies, each with where it is
pub record Beginning : Type 0 where
  pub first : Tree
  pub open_scope : Scope
  pub key : List ℕ
  pub old_key : Option (List ℕ)
  pub audience : List ℕ
  pub rules : ContextRules
  pub server_at : Peer
  pub minted : List Minted
  pub clients : List (Placed Client)
  pub proxies : List (Placed Proxy)

-- where its nodes are
abbrev pub places_of : Beginning → List Peer
places_of start = places start.server_at start.clients start.proxies

-- each text is that of its grant, and each client holds one and did nothing yet
pub record AreEnrolled (minted : List Minted) (clients : List (Placed Client)) : Type 0 where
  pub texts : (m : Minted) → In m minted → IsTextOf m.grant m.text
  pub holders : (number : ℕ) (placed : Placed Client) → slice_get clients number ≡ Some placed → IsNewClient minted number (core placed.node)

-- ---- a client is enrolled

-- the grant of these claims, whose scope has these entries, to the client of this number, and their text
abbrev pub minted_of : ℕ → Claims → List Entry → Minted
minted_of number claims entries = record {
  grant = record {
    id = claims.material.id;
    secret = claims.material.secret;
    salt = claims.material.salt;
    id_context = claims.material.id_context;
    alg = claims.material.alg;
    scope = scope_of entries;
    not_before = claims.not_before;
    expires = claims.expires;
    holder = number;
  };
  text = spelling (claims_item claims);
}

-- a client that is there and reaches its server that way, with this token, with no context, waiting for nothing, and having heard nothing
pub record IsPlaced (holder : NewHolder) (token : List ℕ) (placed : Placed Client) : Type 0 where
  pub at : placed.at ≡ holder.at
  pub next_hop : placed.node.next_hop ≡ holder.way.next_hop
  pub origin : placed.node.origin ≡ holder.way.origin
  pub desk : IsDeskOf holder.claims.material token placed.node.desk
  pub context : placed.node.context ≡ None
  pub waiting : placed.node.waiting ≡ None
  pub endpoint : placed.node.endpoint ≡ fresh

-- `is_sealing algorithm` is the relation of the algorithm's cipher
module _ (is_sealing : Sealings) where
  -- The scope of the claims has these entries; the token is the object of the claims' text, sealed under the key (RFC 8392 section 7).
  pub record IsEnrolled (key : List ℕ) (number : ℕ) (holder : NewHolder) (minted : Minted) (placed : Placed Client) : Type 0 where
    pub entries : List Entry
    pub scope : IsScope holder.claims.scope entries
    pub ciphertext : List ℕ
    pub sealed : is_sealing EightByteTag key holder.iv (enc_structure algorithm_header []) (spelling (claims_item holder.claims)) ciphertext
    pub granted : minted ≡ minted_of number holder.claims entries
    pub client : IsPlaced holder (spelling (object_item (token_object holder.iv ciphertext))) placed

  pub record Enrols (old : Beginning) (holder : NewHolder) (new : Beginning) : Type 0 where
    pub minted : Minted
    pub placed : Placed Client
    pub enrolled : IsEnrolled old.key (length old.clients) holder minted placed
    pub is : new ≡ record old { minted = old.minted ++ minted ∷ []; clients = old.clients ++ placed ∷ [] }

-- ---- a proxy is added

-- a proxy that is there and forwards to these targets; it has heard nothing, and no exchange is open
abbrev pub new_proxy : Peer → List Target → Placed Proxy
new_proxy at targets = record { at = at; node = record { targets = targets; exchanges = none_open; endpoint = fresh } }

-- ---- the world that begins so

-- the server heard nothing and holds no context
abbrev pub first_nodes : Beginning → NodeStates
first_nodes start = record {
  server_at = start.server_at;
  server = record {
    tree = start.first;
    desk = record { key = start.key; old_key = start.old_key; audience = start.audience; rules = start.rules; table = [] };
    open_scope = start.open_scope;
    endpoint = fresh;
  };
  clients = start.clients;
  proxies = start.proxies;
}

abbrev pub begun : Beginning → State
begun start = record { minted = start.minted; first = start.first; nodes = first_nodes start; sent = []; steps = []; records = [] }
