-- How a client, the server and the proxy between them are before a round that ends well: the way, which is straight or through a proxy,
-- and what the two ends have.
use Rattle.std.specs.Prelude.{◌≡◌, ℕ, ◌≤◌, ◌<◌, false, List, length, Some, None}
use Rattle.osc_model.specs.declared.algorithm.Algorithm.TheVariants.{EightByteTag}
use Rattle.osc_model.specs.declared.node.Draw.{Draw}
use Rattle.osc_model.specs.declared.node.Moment.{Moment}
use Rattle.osc_model.specs.declared.node.Peer.{Peer}
use Rattle.osc_dedup.specs.{looked}
use Rattle.osc_message.specs.{has_open, peers_of, own_id}
use Rattle.osc_context.specs.{greatest_number}
use Rattle.osc_window.specs.{IsFresh}
use Rattle.osc_scope.specs.{Entry}
use Rattle.osc_token.specs.declared.claims.Claims.{Claims}
use Rattle.osc_ccm.specs.{Sealings}
use Rattle.osc_authz.specs.{ClientContextState, IsLive, In, contexts}
use Rattle.osc_authz.specs.SecurityContext.{SecurityContext}
use Rattle.osc_server.specs.{standing_of}
use Rattle.osc_server.specs.State.{State as Server}
use Rattle.osc_client.specs.State.{State as Client}
use Rattle.osc_client.specs.{begun_by, HostAndPort}
use Rattle.osc_rounds.specs.Agreement.{MakesContexts}
use Rattle.osc_rounds.specs.Welcome.{IsWelcomeUnder}
use Rattle.osc_proxy.specs.{free_key, next_own, peer_of, answer_id}
use Rattle.osc_proxy.specs.State.{State as Proxy}

-- ---- the way

-- The client, which has this address, sends to the server itself, which has that one, and which heard no message of the ID that the
-- client takes.
pub record IsStraight (client : Client) (server : Server) (now : Moment) (draw : Draw) (at server_at : Peer) : Type 0 where
  pub direct : client.origin ≡ None
  pub next_hop : client.next_hop ≡ server_at
  pub unheard : looked now at (own_id draw client.endpoint.next_id) server.endpoint.seen ≡ None

-- the way of a round through a proxy: the addresses of client, proxy and server, when it goes, and what the proxy draws
pub record Hops : Type 0 where
  pub at : Peer
  pub proxy_at : Peer
  pub server_at : Peer
  pub now : Moment
  pub proxy_draw : Draw

-- The client sends to the proxy (RFC 7252 section 5.7.2). That has the server among its targets, by the host and port that the client
-- writes; a key for one more exchange; fewer than 64 peers with a confirmable message open, and none open to the server or the client.
-- No message ID that is taken on the way was heard where it comes: the client's at the proxy, the proxy's first at the server, and its
-- second at the client.
pub record IsThrough (client : Client) (proxy : Proxy) (server : Server) (draw : Draw) (hops : Hops) : Type 0 where
  pub origin : HostAndPort
  pub named : client.origin ≡ Some origin
  pub next_hop : client.next_hop ≡ hops.proxy_at
  pub target : peer_of proxy.targets origin.host origin.port ≡ Some hops.server_at
  pub key : ℕ
  pub free : free_key proxy.exchanges ≡ Some key
  pub few : length (peers_of proxy.endpoint.sending) < 64
  pub none_to_server : has_open hops.server_at proxy.endpoint.sending ≡ false
  pub none_to_client : has_open hops.at proxy.endpoint.sending ≡ false
  pub unheard : looked hops.now hops.at (own_id draw client.endpoint.next_id) proxy.endpoint.seen ≡ None
  pub new_at_server : looked hops.now hops.proxy_at (next_own proxy hops.proxy_draw) server.endpoint.seen ≡ None
  pub new_at_client : looked hops.now hops.proxy_at (answer_id proxy hops.proxy_draw) client.endpoint.seen ≡ None

-- ---- the ends

-- The client waits for nothing. Both have a context of one name, which is live at the server; and the client's next number is one that
-- may be taken, and fresh at the server.
pub record MayAsk (client : Client) (server : Server) (now : Moment) (context : ClientContextState) (held : SecurityContext) : Type 0 where
  pub idle : client.waiting ≡ None
  pub has : client.context ≡ Some context
  pub here : In held (contexts server.desk.table)
  pub one_name : held.name ≡ context.name
  pub live : IsLive (standing_of server now) held
  pub number : context.next ≤ greatest_number
  pub fresh : IsFresh held.window context.next

-- `is_sealing algorithm` is the relation of the algorithm's cipher
module _ (is_sealing : Sealings) where
  -- The client waits for nothing, and holds a token of these claims, with this scope, that is welcome at the server, under its key or its old
  -- key. The server doesn't know the post that the client makes of its draw.
  pub record MayExchange (client : Client) (server : Server) (now : Moment) (draw : Draw) (claims : Claims) (entries : List Entry) : Type 0 where
    pub idle : client.waiting ≡ None
    pub token_key : List ℕ
    pub welcome : IsWelcomeUnder (is_sealing EightByteTag) token_key server.desk (standing_of server now) claims entries client.desk
    pub makes : MakesContexts server.desk claims (begun_by client draw)
