-- An exchange that goes to the server through a forward proxy: how both ends stand before, and the outcome, whatever the proxy is,
-- where the server hears what was posted as a proxy forwards it, and the client hears the answer as a proxy sends it back.
use Rattle.std.specs.Prelude.{◌≡◌, ℕ, ◌<◌, ◌≤◌, ◌^◌, List, [], ◌∷◌, length, Some, None}
use Rattle.osc_model.specs.Arrival.{Arrival}
use Rattle.osc_model.specs.{nonce_drawn, sends, quiet}
use Rattle.osc_model.specs.declared.algorithm.Algorithm.TheVariants.{EightByteTag}
use Rattle.osc_model.specs.declared.node.Draw.{Draw}
use Rattle.osc_model.specs.declared.node.Moment.{Moment}
use Rattle.osc_model.specs.declared.node.Peer.{Peer}
use Rattle.osc_model.specs.declared.step.ClientResult.TheVariants as result
use Rattle.osc_model.specs.declared.step.Step.{Step}
use Rattle.osc_cbor.specs.{spelling as item_spelling}
use Rattle.osc_coap.specs.Message.{Message}
use Rattle.osc_coap.specs.declared.kind.Kind.TheVariants.{Confirmable}
use Rattle.osc_dedup.specs.{looked}
use Rattle.osc_message.specs.{EndpointState, own_id, datagram, empty_acknowledgement}
use Rattle.osc_scope.specs.{Entry}
use Rattle.osc_token.specs.{claims_item}
use Rattle.osc_token.specs.declared.claims.Claims.{Claims}
use Rattle.osc_ccm.specs.{Sealings}
use Rattle.osc_authz.specs.SecurityContext.{SecurityContext}
use Rattle.osc_server.specs.{standing_of, Hears as ServerHears}
use Rattle.osc_server.specs.State.{State as Server}
use Rattle.osc_client.specs.{Hears as ClientHears, begun_by, post_by, HostAndPort, IsLawfulOrigin}
use Rattle.osc_client.specs.State.{State as Client}
use Rattle.osc_proxy.specs.{answer as sent_back, forwarded, IsAnswerTo}
use Rattle.osc_rounds.specs.Agreement.{MakesContexts}
use Rattle.osc_rounds.specs.Coming.{coming, in_bytes}
use Rattle.osc_rounds.specs.ExchangeRound.{IsHeld}
use Rattle.osc_rounds.specs.ForProxy.{IsForProxy}
use Rattle.osc_rounds.specs.RoundNotes.{AreNotesOfAgreement}
use Rattle.osc_rounds.specs.Asked.{with_acknowledgement}
use Rattle.osc_rounds.specs.Welcome.{IsWelcomeUnder}

-- an exchange that goes through a proxy, whatever that is: the server before, the moment, what the client draws, the host and port by which
-- it names the server, and the proxy's address; what its token claims, the entries of the token's scope, and the key that the server opens
-- the token with
pub record ProxiedExchange : Type 0 where
  pub server : Server
  pub now : Moment
  pub draw : Draw
  pub origin : HostAndPort
  pub proxy_at : Peer
  pub claims : Claims
  pub entries : List Entry
  pub token_key : List ℕ

-- a message of the proxy, as it comes to the server
abbrev pub at_server : ProxiedExchange → Draw → Message → Arrival Message
at_server exchange draw message = record { at = exchange.now; from = exchange.proxy_at; draw = draw; what = message }

-- the text of the token's claims
abbrev pub claims_text : Claims → List ℕ
claims_text claims = item_spelling (claims_item claims)

-- what was posted: the client that waits for the answer, and its message
pub record Posted : Type 0 where
  pub begun : Client
  pub message : Message

-- one datagram goes to the next hop: the post, as a proxy can take it up for this server
pub record IsPostedThrough (origin : HostAndPort) (old : Client) (draw : Draw) (step : Step) : Type 0 where
  pub out : step.out ≡ datagram old.next_hop (post_by old draw) ∷ []
  pub for_proxy : IsForProxy origin (post_by old draw)

-- The client's end of an exchange, once it is over by a confirmable message of this ID from there: that is acknowledged, and nothing
-- waits; the client has this context.
pub record IsMadeThrough (old : Client) (from : Peer) (id : ℕ) (held : SecurityContext) (step : Step) (new : Client) : Type 0 where
  pub told : step ≡ record { out = datagram from (empty_acknowledgement id) ∷ []; notes = record quiet { result = Some result.Made } }
  pub kept : new ≡ record old { context = Some (record { name = held.name; next = 0 }); waiting = None; endpoint = new.endpoint }

-- `is_sealing algorithm` is the relation of the algorithm's cipher
module _ (is_sealing : Sealings) where
  -- The client waits for nothing, sends through the proxy, which has this address, to the server, which that one knows by this host and
  -- port, and holds a token that is welcome there. The server doesn't know the post.
  pub record MayExchangeThrough (client : Client) (exchange : ProxiedExchange) : Type 0 where
    pub through : client.origin ≡ Some exchange.origin
    pub next_hop : client.next_hop ≡ exchange.proxy_at
    pub idle : client.waiting ≡ None
    pub welcome : IsWelcomeUnder (is_sealing EightByteTag) exchange.token_key exchange.server.desk (standing_of exchange.server exchange.now) exchange.claims exchange.entries client.desk
    pub makes : MakesContexts exchange.server.desk exchange.claims (begun_by client exchange.draw)
    -- what the type of an origin says; and a draw has a nonce and a token, of 8 bytes each
    pub origin_lawful : IsLawfulOrigin exchange.origin
    pub draw_size : 16 ≤ length exchange.draw.0

  -- The server opened the token, to the text of its claims, and drew a nonce, and it sends one datagram, which the proxy can send back. Where
  -- the client takes that, in a confirmable message that is new to it, and whatever else its message layer heard meanwhile, both have a
  -- context of one name, the server's with the scope of these entries.
  pub record IsAgreedAndMadeThrough (exchange : ProxiedExchange) (posted : Posted) (came : Arrival Message) (second : Step) (agreed : Server) : Type 0 where
    pub notes : AreNotesOfAgreement exchange.token_key (claims_text exchange.claims) came.draw second.notes
    pub response : Message
    pub out : second.out ≡ datagram exchange.proxy_at response ∷ []
    pub forwardable : IsAnswerTo came.what response
    pub made : (endpoint : EndpointState) (back : ℕ) (draw : Draw) (third : Step) (after : Client)
        → back < 2 ^ 16 → looked exchange.now exchange.proxy_at back endpoint.seen ≡ None
        → ClientHears is_sealing (record posted.begun { endpoint = endpoint })
        (coming exchange.now exchange.proxy_at draw (sent_back Confirmable back posted.message.token response)) third after
        → (held : SecurityContext) × IsHeld agreed exchange.now exchange.entries held × IsMadeThrough posted.begun exchange.proxy_at back held third after

  -- One datagram goes to the proxy, under the message ID that the client takes, and the proxy can take it up. The client drew a nonce, and
  -- of it nothing else changes but what waits and its message layer, which heard nothing. Where the proxy acknowledges the datagram, the
  -- client sends nothing, and waits as before. Where what the proxy forwards comes to the server, under a message ID that is new to it and
  -- a token of 8 bytes, it is agreed, and a context is made.
  pub record IsBegunAndMadeThrough (client : Client) (exchange : ProxiedExchange) (first : Step) (begun : Client) : Type 0 where
    pub message : Message
    pub id : message.id ≡ own_id exchange.draw client.endpoint.next_id
    pub out : first.out ≡ datagram exchange.proxy_at message ∷ []
    pub notes : first.notes ≡ record quiet { drawn = Some (nonce_drawn exchange.draw) }
    pub for_proxy : IsForProxy exchange.origin message
    pub kept : begun ≡ record client { waiting = begun.waiting; endpoint = begun.endpoint }
    pub seen : begun.endpoint.seen ≡ client.endpoint.seen
    pub settled : (at : Moment) (draw : Draw) (step : Step) (later : Client)
        → ClientHears is_sealing begun (coming at exchange.proxy_at draw (empty_acknowledgement message.id)) step later
        → (step ≡ sends [])
        × (later ≡ record begun { endpoint = with_acknowledgement exchange.proxy_at message.id begun.endpoint })
    pub agreed : (id : ℕ) (token : List ℕ) (server_draw : Draw) (second : Step) (after : Server)
        → id < 2 ^ 16 → length token ≡ 8 → looked exchange.now exchange.proxy_at id exchange.server.endpoint.seen ≡ None
        → length server_draw.0 ≡ 32
        → ServerHears is_sealing exchange.server (in_bytes (at_server exchange server_draw (forwarded id token message))) second after
        → IsAgreedAndMadeThrough exchange (record { begun = begun; message = message }) (at_server exchange server_draw (forwarded id token message))
        second after
