-- A request that goes through a forward proxy, and its answer: how both ends stand before, and the outcome. What the proxy makes
-- of a request is `forwarded`, and what it makes of the response is `answer` (RFC 7252 section 5.7.2).
use Rattle.std.specs.Prelude.{◌≡◌, ℕ, ◌+◌, ◌≤◌, ◌<◌, ◌^◌, List, [], ◌∷◌, length, Some, None}
use Rattle.osc_model.specs.{apply_read, token_drawn}
use Rattle.osc_model.specs.Arrival.{Arrival}
use Rattle.osc_model.specs.declared.context.ContextName.{ContextName}
use Rattle.osc_model.specs.declared.node.Draw.{Draw}
use Rattle.osc_model.specs.declared.node.Moment.{Moment}
use Rattle.osc_model.specs.declared.node.Peer.{Peer}
use Rattle.osc_model.specs.declared.reply.Reply.{Reply}
use Rattle.osc_model.specs.declared.step.Step.{Step}
use Rattle.osc_coap.specs.Message.{Message}
use Rattle.osc_coap.specs.declared.kind.Kind.TheVariants.{Confirmable}
use Rattle.osc_dedup.specs.{looked}
use Rattle.osc_message.specs.{EndpointState, own_id, datagram, empty_acknowledgement}
use Rattle.osc_context.specs.{greatest_number}
use Rattle.osc_ccm.specs.{Sealings}
use Rattle.osc_protect.specs.{IsProtectedRequest, plain_bytes}
use Rattle.osc_authz.specs.{ClientContextState, holder_at}
use Rattle.osc_authz.specs.SecurityContext.{SecurityContext}
use Rattle.osc_run.specs.{request_note, Replies as AppliesTo}
use Rattle.osc_options.specs.{read_request}
use Rattle.osc_server.specs.{Hears as ServerHears, notes_of_request}
use Rattle.osc_server.specs.State.{State as Server}
use Rattle.osc_client.specs.{Hears as ClientHears, Asked, plain_of, HostAndPort, IsLawfulOrigin}
use Rattle.osc_client.specs.State.{State as Client}
use Rattle.osc_proxy.specs.{answer as sent_back, forwarded, IsAnswerTo}
use Rattle.osc_rounds.specs.{asked_text, AwaitsReply, HasServed, IsAnsweredWith, IsForServer, OpenedRequest, coming, IsForProxy}

-- ---- before

-- The client sends to the proxy of this address, for a server that the proxy knows by this host and port, and its next number may be
-- taken; the host can be a Uri-Host, and the token that it draws has 8 bytes.
pub record SendsThrough (client : Client) (draw : Draw) (origin : HostAndPort) (proxy_at : Peer) (context : ClientContextState) : Type 0 where
  pub through : client.origin ≡ Some origin
  pub next_hop : client.next_hop ≡ proxy_at
  pub number : context.next ≤ greatest_number
  pub origin_lawful : IsLawfulOrigin origin
  pub token_size : length (token_drawn draw) ≡ 8

-- the text that is sealed
abbrev pub text_asked : Client → Asked → List ℕ
text_asked client asks = asked_text client asks.draw asks.request

-- what goes to the proxy: the host and port by which the client names the server, and the proxy's address; what the client asks, and
-- under which name and number
pub record RequestToProxy : Type 0 where
  pub origin : HostAndPort
  pub proxy_at : Peer
  pub asks : Asked
  pub name : ContextName
  pub number : ℕ

-- the same, with the server before, which has this context, and the moment
pub record ProxiedRequest : Type 0 where
  pub origin : HostAndPort
  pub proxy_at : Peer
  pub asks : Asked
  pub held : SecurityContext
  pub number : ℕ
  pub server : Server
  pub now : Moment

-- what comes from the proxy: the client that has asked, its message, the server before, and the request that it opens
pub record RequestFromProxy : Type 0 where
  pub asked : Client
  pub message : Message
  pub server : Server
  pub request : OpenedRequest

-- ---- after

-- `is_sealing algorithm` is the relation of the algorithm's cipher
module _ (is_sealing : Sealings) where
  -- This message is that one, protected under this name and number, which is a request for the server, and this is encrypted of it.
  pub record IsForwardedAs (name : ContextName) (number : ℕ) (text : List ℕ) (plain message : Message) : Type 0 where
    pub protected : IsProtectedRequest is_sealing name number plain message
    pub for_server : IsForServer plain
    pub text_is : plain_bytes plain ≡ text

  -- The client asks: one datagram goes to the proxy, with a protected request that a proxy forwards, and what it forwards is the same
  -- request to the server, whatever message ID and token it has; and the client waits for the answer from the proxy.
  pub record IsAskedThrough (client : Client) (way : RequestToProxy) (first : Step) (asked : Client) : Type 0 where
    pub message : Message
    pub out : first.out ≡ datagram way.proxy_at message ∷ []
    pub sealed : first.notes.seals ≡ Some (request_note way.name way.number (text_asked client way.asks))
    pub unserved : first.notes.served ≡ None
    pub context : asked.context ≡ Some (record { name = way.name; next = way.number + 1 })
    pub id : message.id ≡ own_id way.asks.draw client.endpoint.next_id
    pub heard : asked.endpoint.seen ≡ client.endpoint.seen
    pub for_proxy : IsForProxy way.origin message
    pub goes_on : (id : ℕ) (token : List ℕ)
        → IsForwardedAs way.name way.number (text_asked client way.asks) (forwarded id token (plain_of client way.asks.draw way.asks.request)) (forwarded id token message)
    pub awaits : AwaitsReply asked way.proxy_at way.name way.number message

  -- The server serves this request as one entry, under its context's scope, and sends one datagram, which a proxy sends back; and where the
  -- client takes that, in a confirmable message that it hasn't heard before, and whatever else its message layer heard meanwhile, it is
  -- the answer, with that reply, and is acknowledged.
  pub record IsServedAndAnsweredThrough (way : RequestFromProxy) (came : Arrival Message) (second : Step) (served : Server) : Type 0 where
    pub reply : Reply
    pub applied : AppliesTo way.server.tree (apply_read way.server.desk.rules.revoked way.server.tree way.request.held.scope (read_request way.request.text)) reply served.tree
    pub entry : second.notes ≡ notes_of_request came.at way.request.held (holder_at way.request.held.name.client_id way.server.desk.table) way.request.number way.request.text reply
    pub kept : HasServed way.request.held.name.client_id way.request.number way.server.desk served.desk
    pub response : Message
    pub out : second.out ≡ datagram came.from response ∷ []
    pub forwardable : IsAnswerTo came.what response
    pub answered : (endpoint : EndpointState) (id : ℕ) (draw : Draw) (third : Step) (after : Client)
        → id < 2 ^ 16 → looked came.at came.from id endpoint.seen ≡ None
        → ClientHears is_sealing (record way.asked { endpoint = endpoint }) (coming came.at came.from draw (sent_back Confirmable id way.message.token response)) third after
        → IsAnsweredWith (datagram came.from (empty_acknowledgement id) ∷ []) way.asked
        (record { name = way.request.held.name; number = way.request.number; reply = reply }) third after

  -- One datagram goes to the proxy, with a request that a proxy forwards; and where that comes to the server, under a message ID that
  -- wasn't heard there and a token of 8 bytes, it is served and answered.
  pub record IsAskedAndAnsweredThrough (client : Client) (way : ProxiedRequest) (first : Step) (asked : Client) : Type 0 where
    pub message : Message
    pub out : first.out ≡ datagram way.proxy_at message ∷ []
    pub sealed : first.notes.seals ≡ Some (request_note way.held.name way.number (text_asked client way.asks))
    pub unserved : first.notes.served ≡ None
    pub context : asked.context ≡ Some (record { name = way.held.name; next = way.number + 1 })
    pub id : message.id ≡ own_id way.asks.draw client.endpoint.next_id
    pub heard : asked.endpoint.seen ≡ client.endpoint.seen
    pub for_proxy : IsForProxy way.origin message
    pub served : (id : ℕ) (token : List ℕ) (server_draw : Draw) (second : Step) (after : Server)
        → id < 2 ^ 16 → length token ≡ 8 → looked way.now way.proxy_at id way.server.endpoint.seen ≡ None
        → ServerHears is_sealing way.server (coming way.now way.proxy_at server_draw (forwarded id token message)) second after
        → IsServedAndAnsweredThrough
        (record { asked = asked; message = message; server = way.server; request = record { held = way.held; number = way.number; text = text_asked client way.asks } })
        (record { at = way.now; from = way.proxy_at; draw = server_draw; what = forwarded id token message }) second after
