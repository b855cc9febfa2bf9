-- An exchange over a network that loses: what the server has to be when the first copy of the post comes, what it then makes of it, and what
-- is promised.
use Rattle.std.specs.Prelude.{◌≡◌, ℕ, List, [], ◌∷◌, length, Option, Some}
use Rattle.osc_model.specs.{nonce_drawn, quiet}
use Rattle.osc_model.specs.declared.algorithm.Algorithm.TheVariants.{EightByteTag}
use Rattle.osc_model.specs.declared.node.Draw.{Draw}
use Rattle.osc_model.specs.declared.node.Moment.{Moment}
use Rattle.osc_model.specs.declared.step.ClientResult.TheVariants as result
use Rattle.osc_model.specs.declared.step.Step.{Step}
use Rattle.osc_coap.specs.Message.{Message}
use Rattle.osc_coap.specs.declared.kind.Kind.TheVariants.{Acknowledgement}
use Rattle.osc_message.specs.{datagram, timeout_of}
use Rattle.osc_ccm.specs.{Sealings}
use Rattle.osc_authz.specs.{ClientContextState}
use Rattle.osc_authz.specs.SecurityContext.{SecurityContext}
use Rattle.osc_server.specs.State.{State as Server}
use Rattle.osc_server.specs.{standing_of}
use Rattle.osc_client.specs.State.{State as Client}
use Rattle.osc_rounds.specs.{BegunExchange, IsAgreedTo, IsHeld, IsWelcomeUnder, MakesContexts, Route, agreement}
use Rattle.osc_loss.specs.Road.{Road}
use Rattle.osc_loss.specs.Round.{Given, IsAnsweredWhateverComes}

-- a post on its way: the client that has begun the exchange and the server then; the way; and what was begun
pub record PostOnItsWay : Type 0 where
  pub begun : Client
  pub server : Server
  pub route : Route
  pub exchange : BegunExchange

-- the client learns that a context is made
abbrev pub making : Step
making = record { out = []; notes = record quiet { result = Some result.Made } }

-- Client and server have a context of one name: the server's, as it agreed, is live, has the token's scope, and has accepted no number yet.
pub record MakesOneContext (post : PostOnItsWay) (given : Given) (context : Option ClientContextState) : Type 0 where
  pub held : SecurityContext
  pub holds : IsHeld given.server given.now post.exchange.entries held
  pub one_name : context ≡ Some (record { name = held.name; next = 0 })

-- `is_sealing algorithm` is the relation of the algorithm's cipher
module _ (is_sealing : Sealings) where
  -- The token is welcome at the server, which doesn't know the post; and a draw has 32 bytes.
  pub record MayAgree (post : PostOnItsWay) (server : Server) (now : Moment) (draw : Draw) : Type 0 where
    pub token_key : List ℕ
    pub welcome : IsWelcomeUnder (is_sealing EightByteTag) token_key server.desk (standing_of server now) post.exchange.claims post.exchange.entries post.exchange.holder
    pub makes : MakesContexts server.desk post.exchange.claims post.exchange.begun
    pub draw_size : length draw.0 ≡ 32

  -- The server agrees, and the client learns that a context is made.
  pub record IsAgreedAs (post : PostOnItsWay) (message : Message) (old : Server) (now : Moment) (draw : Draw) (step : Step) (new : Server) (given : Given) : Type 0 where
    pub is : IsAgreedTo is_sealing old (record { at = now; from = post.route.at; draw = draw; what = message }) post.exchange step new
    pub given_is : given ≡ record { answer = agreement Acknowledgement message.id message.token is.answer; server = new; now = now; told = making }

  abbrev pub road_of : PostOnItsWay → Moment → Draw → Message → Road
  road_of post asked_at draw message = record { route = post.route; message = message; went = asked_at; timeout = timeout_of draw }

  -- One datagram goes to the server; and whatever comes to both ends then, it is answered: with one context of one name at both ends.
  pub record IsBegunOverLoss (post : PostOnItsWay) (client : Client) (asked_at : Moment) (draw : Draw) (first : Step) : Type 0 where
    pub message : Message
    pub out : first.out ≡ datagram client.next_hop message ∷ []
    pub drawn : first.notes.drawn ≡ Some (nonce_drawn draw)
    pub goes : IsAnsweredWhateverComes is_sealing (IsAgreedAs post message) (MakesOneContext post) (road_of post asked_at draw message)
        (record { client = post.begun; server = post.server; requests = first.out; replies = [] }) (MayAgree post)
