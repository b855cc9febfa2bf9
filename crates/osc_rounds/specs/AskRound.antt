-- A request that goes straight to the server, and its answer: the outcome.
use Rattle.std.specs.Prelude.{◌≡◌, ◌≢◌, ℕ, ◌+◌, List, [], ◌∷◌, Some, None}
use Rattle.osc_model.specs.{apply_read, IsWithinLimits}
use Rattle.osc_model.specs.declared.node.Draw.{Draw}
use Rattle.osc_model.specs.declared.node.Moment.{Moment}
use Rattle.osc_model.specs.declared.node.Peer.{Peer}
use Rattle.osc_model.specs.declared.reply.Reply.{Reply}
use Rattle.osc_model.specs.declared.request.Request.{Request}
use Rattle.osc_model.specs.declared.step.Step.{Step}
use Rattle.osc_coap.specs.Message.{Message}
use Rattle.osc_dedup.specs.{looked}
use Rattle.osc_message.specs.{own_id, datagram}
use Rattle.osc_ccm.specs.{Sealings}
use Rattle.osc_protect.specs.{plain_bytes}
use Rattle.osc_authz.specs.SecurityContext.{SecurityContext}
use Rattle.osc_authz.specs.{IsTable, holder_at}
use Rattle.osc_run.specs.{request_note, Replies as AppliesTo}
use Rattle.osc_options.specs.{read_request}
use Rattle.osc_server.specs.State.{State as Server}
use Rattle.osc_server.specs.{notes_of_request, Hears as ServerHears}
use Rattle.osc_client.specs.{plain_of, Hears as ClientHears}
use Rattle.osc_client.specs.State.{State as Client}
use Rattle.osc_rounds.specs.Asked.{HasServed, IsAnswered}
use Rattle.osc_rounds.specs.Coming.{coming}

-- what is true of each server: its resources stay within their limits, and its contexts are a table
pub record IsLawfulServer (server : Server) : Type 0 where
  pub limits : IsWithinLimits server.tree
  pub table : IsTable server.desk.table

abbrev pub asked_text : Client → Draw → Request → List ℕ
asked_text client draw request = plain_bytes (plain_of client draw request)

-- a request on its way, straight to the server: the client that has asked and the server before, their addresses, and the moment; the
-- server's context, the number and the text of the request
pub record StraightRequest : Type 0 where
  pub asked : Client
  pub server : Server
  pub at : Peer
  pub server_at : Peer
  pub now : Moment
  pub held : SecurityContext
  pub number : ℕ
  pub text : List ℕ

-- `is_sealing algorithm` is the relation of the algorithm's cipher
module _ (is_sealing : Sealings) where
  -- The server serves this text as one entry, under its context's scope, whose window takes the number, and sends one datagram, which
  -- the client takes for the answer, with that reply.
  pub record IsServedAndAnswered (way : StraightRequest) (second : Step) (served : Server) : Type 0 where
    pub reply : Reply
    pub applied : AppliesTo way.server.tree (apply_read way.server.desk.rules.revoked way.server.tree way.held.scope (read_request way.text)) reply served.tree
    pub entry : second.notes ≡ notes_of_request way.now way.held (holder_at way.held.name.client_id way.server.desk.table) way.number way.text reply
    pub kept : HasServed way.held.name.client_id way.number way.server.desk served.desk
    pub answer : Message
    pub out : second.out ≡ datagram way.at answer ∷ []
    pub answered : (draw : Draw) (third : Step) (after : Client) → ClientHears is_sealing way.asked (coming way.now way.server_at draw answer) third after
        → IsAnswered way.asked way.held.name way.number reply third after

  -- One datagram goes to the server, and the client's next number is taken; and where that comes there, it is served and answered, and
  -- of the client's other message IDs the server has heard none that it hadn't heard before.
  pub record IsAskedAndAnswered (way : StraightRequest) (client : Client) (draw : Draw) (first : Step) : Type 0 where
    pub message : Message
    pub out : first.out ≡ datagram client.next_hop message ∷ []
    pub sealed : first.notes.seals ≡ Some (request_note way.held.name way.number way.text)
    pub unserved : first.notes.served ≡ None
    pub context : way.asked.context ≡ Some (record { name = way.held.name; next = way.number + 1 })
    pub served : (server_draw : Draw) (second : Step) (after : Server)
        → ServerHears is_sealing way.server (coming way.now way.at server_draw message) second after
        → IsServedAndAnswered way second after
    pub heard : (server_draw : Draw) (second : Step) (after : Server)
        → ServerHears is_sealing way.server (coming way.now way.at server_draw message) second after
        → (later : Moment) (id : ℕ) → id ≢ own_id draw client.endpoint.next_id → looked later way.at id way.server.endpoint.seen ≡ None
        → looked later way.at id after.endpoint.seen ≡ None
