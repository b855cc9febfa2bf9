-- A request that goes through a forward proxy, and its answer, delivery by delivery: the outcome at client, proxy and
-- server.
use Rattle.std.specs.Prelude.{◌≡◌, ℕ, ◌+◌, List, [], ◌∷◌, Some, None}
use Rattle.osc_model.specs.{apply_read, sends}
use Rattle.osc_model.specs.declared.node.Draw.{Draw}
use Rattle.osc_model.specs.declared.node.Moment.{Moment}
use Rattle.osc_model.specs.declared.node.Peer.{Peer}
use Rattle.osc_model.specs.declared.reply.Reply.{Reply}
use Rattle.osc_model.specs.declared.request.Request.{Request}
use Rattle.osc_model.specs.declared.step.Step.{Step}
use Rattle.osc_coap.specs.Message.{Message}
use Rattle.osc_message.specs.{datagram, empty_acknowledgement}
use Rattle.osc_ccm.specs.{Sealings}
use Rattle.osc_authz.specs.SecurityContext.{SecurityContext}
use Rattle.osc_authz.specs.{holder_at}
use Rattle.osc_run.specs.{request_note, Replies as AppliesTo}
use Rattle.osc_options.specs.{read_request}
use Rattle.osc_server.specs.{Hears as ServerHears, notes_of_request}
use Rattle.osc_server.specs.State.{State as Server}
use Rattle.osc_client.specs.{Hears as ClientHears}
use Rattle.osc_client.specs.State.{State as Client}
use Rattle.osc_proxy.specs.{Hears as ProxyHears, IsAtRest, answer_id, forwarded_by}
use Rattle.osc_proxy.specs.Passage.{Passage}
use Rattle.osc_proxy.specs.State.{State as Proxy}
use Rattle.osc_rounds.specs.AskRound.{asked_text}
use Rattle.osc_rounds.specs.Asked.{HasServed, IsAnsweredWith}
use Rattle.osc_rounds.specs.Coming.{coming}

-- a request on its way: the client that has asked, proxy and server before, their addresses, the moment, and what the proxy draws; the
-- server's context, the number and the text of the request; its message, and the key of its exchange
pub record OnItsWay : Type 0 where
  pub asked : Client
  pub proxy : Proxy
  pub server : Server
  pub at : Peer
  pub proxy_at : Peer
  pub server_at : Peer
  pub now : Moment
  pub proxy_draw : Draw
  pub held : SecurityContext
  pub number : ℕ
  pub text : List ℕ
  pub message : Message
  pub key : ℕ

-- the same, as the proxy takes it up
abbrev pub passage_of : OnItsWay → Passage
passage_of way = record {
  came = record { at = way.now; from = way.at; draw = way.proxy_draw; what = way.message };
  to = way.server_at;
  key = way.key;
}

-- what the proxy forwards, and the message ID of what it sends back
abbrev pub forwarded_on : OnItsWay → Message
forwarded_on way = forwarded_by way.proxy (passage_of way)

abbrev pub id_back : OnItsWay → ℕ
id_back way = answer_id way.proxy way.proxy_draw

-- `is_sealing algorithm` is the relation of the algorithm's cipher
module _ (is_sealing : Sealings) where
  -- sixth: the client acknowledged the answer, and has its reply; and where that comes to the proxy, nothing goes out
  pub record IsAnsweredAndEnds (way : OnItsWay) (brought : Proxy) (reply : Reply) (fifth : Step) (answered : Client) : Type 0 where
    pub is_answered : IsAnsweredWith (datagram way.proxy_at (empty_acknowledgement (id_back way)) ∷ []) way.asked
        (record { name = way.held.name; number = way.number; reply = reply }) fifth answered
    pub ends : (draw : Draw) (sixth : Step) (rested : Proxy)
        → ProxyHears brought (coming way.now way.at draw (empty_acknowledgement (id_back way))) sixth rested
        → IsAtRest way.proxy (passage_of way) sixth rested

  -- fifth: one datagram goes back to the client; and where that comes there, the request is answered
  pub record IsBroughtBackAndAnswered (way : OnItsWay) (settled : Client) (reply : Reply) (fourth : Step) (brought : Proxy) : Type 0 where
    pub back : Message
    pub out : fourth ≡ sends (datagram way.at back ∷ [])
    pub answered : (draw : Draw) (fifth : Step) (after : Client) → ClientHears is_sealing settled (coming way.now way.proxy_at draw back) fifth after
        → IsAnsweredAndEnds way brought reply fifth after

  -- fourth: the server serves the text as one entry, under its context's scope, whose window takes the number, and one datagram goes to
  -- the proxy; and where that comes there, it goes back
  pub record IsServedAndBroughtBack (way : OnItsWay) (settled : Client) (passed : Proxy) (third : Step) (served : Server) : Type 0 where
    pub reply : Reply
    pub applied : AppliesTo way.server.tree (apply_read way.server.desk.rules.revoked way.server.tree way.held.scope (read_request way.text)) reply served.tree
    pub entry : third.notes ≡ notes_of_request way.now way.held (holder_at way.held.name.client_id way.server.desk.table) way.number way.text reply
    pub kept : HasServed way.held.name.client_id way.number way.server.desk served.desk
    pub response : Message
    pub out : third.out ≡ datagram way.proxy_at response ∷ []
    pub brought : (draw : Draw) (fourth : Step) (after : Proxy) → ProxyHears passed (coming way.now way.server_at draw response) fourth after
        → IsBroughtBackAndAnswered way settled reply fourth after

  -- third: the client's message is acknowledged, and nothing goes out; and where what is forwarded comes to the server, it is served
  pub record IsSettledAndServed (way : OnItsWay) (passed : Proxy) (second : Step) (settled : Client) : Type 0 where
    pub told : second ≡ sends []
    pub served : (draw : Draw) (third : Step) (after : Server) → ServerHears is_sealing way.server (coming way.now way.proxy_at draw (forwarded_on way)) third after
        → IsServedAndBroughtBack way settled passed third after

  -- second: two datagrams go out, an acknowledgement to the client and the forwarded request to the server; and where the first comes
  -- to the client, that waits as before
  pub record IsPassedOnAndServed (way : OnItsWay) (first : Step) (passed : Proxy) : Type 0 where
    pub out : first ≡ sends (datagram way.at (empty_acknowledgement way.message.id) ∷ datagram way.server_at (forwarded_on way) ∷ [])
    pub settled : (draw : Draw) (second : Step) (after : Client)
        → ClientHears is_sealing way.asked (coming way.now way.proxy_at draw (empty_acknowledgement way.message.id)) second after
        → IsSettledAndServed way passed second after

  -- first: one datagram goes to the proxy, and the client's next number is taken; and where that comes there, it is passed on
  pub record IsAskedAndServedThrough (way : OnItsWay) (client : Client) (draw : Draw) (request : Request) (asks : Step) : Type 0 where
    pub out : asks.out ≡ datagram way.proxy_at way.message ∷ []
    pub sealed : asks.notes.seals ≡ Some (request_note way.held.name way.number (asked_text client draw request))
    pub unserved : asks.notes.served ≡ None
    pub context : way.asked.context ≡ Some (record { name = way.held.name; next = way.number + 1 })
    pub passed : (first : Step) (after : Proxy) → ProxyHears way.proxy (coming way.now way.at way.proxy_draw way.message) first after
        → IsPassedOnAndServed way first after
