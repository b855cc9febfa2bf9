-- An exchange that goes straight to the server: the outcome.
use Rattle.std.specs.Prelude.{◌≡◌, List, [], ◌∷◌, length, Some, None}
use Rattle.osc_model.specs.{nonce_drawn, quiet}
use Rattle.osc_model.specs.declared.node.Draw.{Draw}
use Rattle.osc_model.specs.declared.node.Moment.{Moment}
use Rattle.osc_model.specs.declared.node.Peer.{Peer}
use Rattle.osc_model.specs.declared.step.ClientResult.TheVariants as result
use Rattle.osc_model.specs.declared.step.Step.{Step}
use Rattle.osc_coap.specs.Message.{Message}
use Rattle.osc_message.specs.{datagram}
use Rattle.osc_ccm.specs.{Sealings}
use Rattle.osc_protect.specs.{HasShortContext}
use Rattle.osc_scope.specs.{Entry, scope_of}
use Rattle.osc_authz.specs.{IsLive, In, contexts}
use Rattle.osc_authz.specs.SecurityContext.{SecurityContext}
use Rattle.osc_server.specs.State.{State as Server}
use Rattle.osc_client.specs.State.{State as Client}
use Rattle.osc_client.specs.{Hears as ClientHears}
use Rattle.osc_server.specs.{standing_of, Hears as ServerHears}
use Rattle.osc_rounds.specs.Coming.{coming}

-- the client's end of an exchange, once it is over: nothing goes out, nothing waits, and it has this context
pub record IsMade (held : SecurityContext) (step : Step) (new : Client) : Type 0 where
  pub told : step ≡ record { out = []; notes = record quiet { result = Some result.Made } }
  pub context : new.context ≡ Some (record { name = held.name; next = 0 })
  pub waiting : new.waiting ≡ None

-- the server holds a live context with this scope, which has accepted no number yet, and whose id context is no longer than one may be
pub record IsHeld (server : Server) (now : Moment) (entries : List Entry) (held : SecurityContext) : Type 0 where
  pub here : In held (contexts server.desk.table)
  pub live : IsLive (standing_of server now) held
  pub scope : held.scope ≡ scope_of entries
  pub window : held.window ≡ []
  pub short : HasShortContext held.name

-- a post on its way, straight to the server: the client that has begun the exchange and the server before, their addresses, and the
-- moment; and the entries of the token's scope
pub record StraightPost : Type 0 where
  pub begun : Client
  pub server : Server
  pub at : Peer
  pub server_at : Peer
  pub now : Moment
  pub entries : List Entry

-- `is_sealing algorithm` is the relation of the algorithm's cipher
module _ (is_sealing : Sealings) where
  -- The server sends one datagram; and where that comes to the client, both have a context of one name, the server's with the scope
  -- of these entries.
  pub record IsAgreedAndMade (post : StraightPost) (second : Step) (agreed : Server) : Type 0 where
    pub answer : Message
    pub out : second.out ≡ datagram post.at answer ∷ []
    pub made : (draw : Draw) (third : Step) (after : Client) → ClientHears is_sealing post.begun (coming post.now post.server_at draw answer) third after
        → (held : SecurityContext) × IsHeld agreed post.now post.entries held × IsMade held third after

  -- One datagram goes to the server; and where that comes there, it is agreed, and a context is made.
  pub record IsBegunAndMade (post : StraightPost) (client : Client) (draw : Draw) (first : Step) : Type 0 where
    pub message : Message
    pub out : first.out ≡ datagram client.next_hop message ∷ []
    pub drawn : first.notes.drawn ≡ Some (nonce_drawn draw)
    pub agreed : (server_draw : Draw) (second : Step) (after : Server) → length server_draw.0 ≡ 32
        → ServerHears is_sealing post.server (coming post.now post.at server_draw message) second after
        → IsAgreedAndMade post second after
