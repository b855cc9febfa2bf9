-- Quiet rounds that end well: the outcome of an exchange, and of a request, where nothing is lost.
use Rattle.std.specs.Prelude.{◌≡◌, ◌≢◌, ◌≤◌, ◌<◌, ◌+◌, ◌%◌, ℕ, Bool, true, false, length, List, [], ◌∷◌, ◌++◌, Some, None, slice_get}
use Rattle.osc_model.specs.Refusals as refusal
use Rattle.osc_model.specs.{apply_read}
use Rattle.osc_model.specs.StepNotes.{StepNotes}
use Rattle.osc_model.specs.declared.node.Draw.{Draw}
use Rattle.osc_model.specs.declared.node.Moment.{Moment}
use Rattle.osc_model.specs.declared.reply.Reply.{Reply}
use Rattle.osc_model.specs.declared.step.ClientResult.TheVariants as result
use Rattle.osc_cbor.specs.{spelling}
use Rattle.osc_dedup.specs.{looked}
use Rattle.osc_message.specs.{own_id}
use Rattle.osc_window.specs.{IsFresh}
use Rattle.osc_authz.specs.{ClientContextState, In, contexts}
use Rattle.osc_authz.specs.SecurityContext.{SecurityContext}
use Rattle.osc_run.specs.{history, Noted, by_client, by_server, HasFreshDraws, IsMinted, Replies as AppliesTo}
use Rattle.osc_run.specs.Premise.{Premise}
use Rattle.osc_options.specs.{read_request}
use Rattle.osc_rounds.specs.{asked_text, OpenedRequest, IsHeld, Hops, IsStraight, IsThrough, MayAsk, MayExchange, AreAmongQuiet}
use Rattle.osc_server.specs.State.{State as Server}
use Rattle.osc_client.specs.{Asked}
use Rattle.osc_scope.specs.{Entry}
use Rattle.osc_token.specs.{claims_item}
use Rattle.osc_token.specs.declared.claims.Claims.{Claims}
use Rattle.osc_ccm.specs.{Sealings, Tags}
use Rattle.osc_proxy.specs.State.{State as Proxy}
use Rattle.osc_client.specs.State.{State as Client}
use Rattle.osc_world.specs.Quiet.{Deliveries, next_draw, waiting_first}
use Rattle.osc_world.specs.Worlds.{Happens, State}
use Rattle.osc_world.specs.declared.event.Event.{Event}
use Rattle.osc_world.specs.declared.event.What.TheVariants.{Ask, Exchange}
use Rattle.osc_world.specs.declared.nodes.Placed.{Placed}

-- ---- before and after

-- when the deliveries of a client's round go, and with which draws: what the client draws for what it sends, and what is drawn at the
-- first delivery of it
pub record ClientRound : Type 0 where
  pub at : Moment
  pub draw : Draw
  pub first : Draw

-- the round of what a client sent last with this draw, in a world that has come so far
abbrev pub round_of : Deliveries → Draw → State → ClientRound
round_of deliveries draw sent = record { at = deliveries.at; draw = draw; first = next_draw deliveries sent }

-- the hops through this proxy
abbrev pub hops_through : Placed Proxy → State → Placed Client → ClientRound → Hops
hops_through proxy world placed round =
    record { at = placed.at; proxy_at = proxy.at; server_at = world.nodes.server_at; now = round.at; proxy_draw = round.first }

-- How a client's round goes, in this number of deliveries: straight to the server, or through a proxy, which takes the first of them (RFC 7252
-- section 5.7.2).
pub data Way (world : State) (placed : Placed Client) (round : ClientRound) (deliveries : ℕ) : Type 0 where
  straight : deliveries ≡ 2 → IsStraight placed.node world.nodes.server round.at round.draw placed.at world.nodes.server_at
      → Way world placed round deliveries
  through : deliveries ≡ 6 → (number : ℕ) (proxy : Placed Proxy) → slice_get world.nodes.proxies number ≡ Some proxy
      → IsThrough placed.node proxy.node world.nodes.server round.draw (hops_through proxy world placed round)
      → Way world placed round deliveries

-- The world is ready for a client's round: no datagram waits, this is the client of this number, and where it is, and the round goes
-- this way.
pub record IsReady (world : State) (client : ℕ) (placed : Placed Client) (round : ClientRound) (deliveries : ℕ) : Type 0 where
  pub still : waiting_first world ≡ None
  pub here : slice_get world.nodes.clients client ≡ Some placed
  pub way : Way world placed round deliveries

-- this number of datagrams was delivered, and none waits
pub record IsRound (deliveries : ℕ) (begun : State) (is_quiet : Bool) (new : State) : Type 0 where
  pub count : length new.records ≡ length begun.records + deliveries
  pub quiet : is_quiet ≡ true
  pub still : waiting_first new ≡ None

-- the one step that happened since wasn't refused by this number
abbrev pub IsNotRefused : ℕ → State → State → Type 0
IsNotRefused number old new = (noted : Noted) → new.steps ≡ noted ∷ old.steps → noted.notes.result ≢ Some (result.Refused number)

-- Where what is assumed of a run held of the old world, it holds of the new one.
abbrev pub KeepsThePremise : State → State → Type 0
KeepsThePremise old new = Premise old.minted old.steps → Premise new.minted new.steps

-- a client that is where it stood, and reaches the server the same way
pub record GoesTheSameWay (before after : Placed Client) : Type 0 where
  pub at : after.at ≡ before.at
  pub next_hop : after.node.next_hop ≡ before.node.next_hop
  pub origin : after.node.origin ≡ before.node.origin

-- Of the message IDs that the client takes after that of its post, or of its request, the server has heard none that it hadn't heard
-- before.
pub record LeavesUnheard (old new : State) (draw : Draw) (before after : Placed Client) : Type 0 where
  pub next_id : after.node.endpoint.next_id ≡ Some ((own_id draw before.node.endpoint.next_id + 1) % 65536)
  pub unheard : (later : Moment) (id : ℕ) → id ≢ own_id draw before.node.endpoint.next_id
      → looked later before.at id old.nodes.server.endpoint.seen ≡ None → looked later before.at id new.nodes.server.endpoint.seen ≡ None

-- ---- an exchange

-- these claims are in a token that the world began with
abbrev pub AreMinted : State → Claims → Type 0
AreMinted world claims = IsMinted world.minted (spelling (claims_item claims))

-- a client's exchange, at this moment
abbrev pub beginning : Moment → Draw → ℕ → Event
beginning now draw client = record { moment = now; draw = draw; what = Exchange client }

-- The client began an exchange, the server agreed, and the client learnt that a context is made: client and server have one of the
-- same name, which is live at the server, with the scope of these entries; and the client waits for nothing more.
pub record HasMade (old : State) (client : ℕ) (now : Moment) (entries : List Entry) (new : State) : Type 0 where
  pub held : SecurityContext
  pub at_server : IsHeld new.nodes.server now entries held
  pub placed : Placed Client
  pub is_there : slice_get new.nodes.clients client ≡ Some placed
  pub at_client : placed.node.context ≡ Some (record { name = held.name; next = 0 })
  pub idle : placed.node.waiting ≡ None
  pub way : (before : Placed Client) → slice_get old.nodes.clients client ≡ Some before → GoesTheSameWay before placed
  pub server_at : new.nodes.server_at ≡ old.nodes.server_at
  pub begun : StepNotes
  pub agreed : StepNotes
  pub made : StepNotes
  pub all : List Noted
  pub among : AreAmongQuiet (by_client client false made ∷ by_server agreed ∷ by_client client false begun ∷ []) all
  pub steps : new.steps ≡ all ++ old.steps
  pub learnt : made.result ≡ Some result.Made

-- ---- a request

-- a client's request
abbrev pub asking : ℕ → Asked → Event
asking client asked = record { moment = asked.at; draw = asked.draw; what = Ask client asked.request }

-- The server still holds the context under which it accepted a number: with the name, the scope and the time that it had; and of the
-- numbers after the accepted one each that was fresh is fresh.
pub record HoldsStill (server : Server) (held : SecurityContext) (number : ℕ) (after : SecurityContext) : Type 0 where
  pub here : In after (contexts server.desk.table)
  pub name : after.name ≡ held.name
  pub scope : after.scope ≡ held.scope
  pub not_before : after.not_before ≡ held.not_before
  pub expires : after.expires ≡ held.expires
  pub revocation : after.revocation ≡ held.revocation
  pub fresh : (later : ℕ) → number < later → IsFresh held.window later → IsFresh after.window later

-- The client asked, the server served it as one entry, under this context and number, and the client took the answer: the entry's
-- plaintext is the one that was asked, the reply with the tree after it is what the machine makes of the tree before, under the
-- context's scope, or 5.00 for lack of memory and the tree as it was, and that reply is what the client learnt. Both still have their
-- contexts, the client's with the next number; and the client waits for nothing more.
pub record HasAnswered (old : State) (client : ℕ) (now : Moment) (request : OpenedRequest) (new : State) : Type 0 where
  pub reply : Reply
  pub applied : AppliesTo old.nodes.server.tree (apply_read old.nodes.server.desk.rules.revoked old.nodes.server.tree request.held.scope (read_request request.text)) reply new.nodes.server.tree
  pub entry : history new.steps
      ≡ history old.steps
      ++ (record { context = request.held.name; number = request.number; plaintext = request.text; request = read_request request.text; moment = now; reply = reply })
      ∷ []
  pub asked : StepNotes
  pub served : StepNotes
  pub answered : StepNotes
  pub all : List Noted
  pub among : AreAmongQuiet (by_client client false answered ∷ by_server served ∷ by_client client false asked ∷ []) all
  pub steps : new.steps ≡ all ++ old.steps
  pub learnt : answered.result ≡ Some (result.Answer reply)
  pub after : SecurityContext
  pub at_server : HoldsStill new.nodes.server request.held request.number after
  pub placed : Placed Client
  pub is_there : slice_get new.nodes.clients client ≡ Some placed
  pub at_client : placed.node.context ≡ Some (record { name = request.held.name; next = request.number + 1 })
  pub idle : placed.node.waiting ≡ None
  pub way : (before : Placed Client) → slice_get old.nodes.clients client ≡ Some before → GoesTheSameWay before placed
  pub server_at : new.nodes.server_at ≡ old.nodes.server_at

-- ---- the result of a quiet round after them

-- what a quiet round ends with: whether nothing waits any more, and the world
pub record QuietEnd : Type 0 where
  pub is_quiet : Bool
  pub world : State

-- `is_sealing algorithm` is the relation of the algorithm's cipher, and `tag algorithm` how long its tag is
module _ (is_sealing : Sealings) (tag : Tags) where
  -- A client began an exchange last: the world before was ready for it, its token was welcome at the server, and the post wasn't refused
  -- as too long (14).
  pub record BegunExchange (deliveries : Deliveries) (count : ℕ) (begun : State) : Type 0 where
    pub before : State
    pub client : ℕ
    pub placed : Placed Client
    pub at : Moment
    pub draw : Draw
    pub claims : Claims
    pub entries : List Entry
    pub ready : IsReady before client placed (round_of deliveries draw begun) count
    pub may : MayExchange is_sealing placed.node before.nodes.server deliveries.at draw claims entries
    pub happens : Happens is_sealing tag before (beginning at draw client) begun
    pub fits : IsNotRefused refusal.datagram_too_long before begun

  -- The exchange that a client began last makes a context. What is assumed goes on, if the token was minted and the nonces that were
  -- drawn are fresh.
  abbrev pub MakesWhatWasBegun : Deliveries → ℕ → State → QuietEnd → Type 0
  MakesWhatWasBegun deliveries limit begun end =
      (count : ℕ) (it : BegunExchange deliveries count begun) → count ≤ limit
      → IsRound count begun end.is_quiet end.world × HasMade it.before it.client deliveries.at it.entries end.world
      × (AreMinted it.before it.claims → HasFreshDraws end.world.steps → KeepsThePremise it.before end.world)

  -- A client asked a request last: the world before was ready for it, client and server had a context of one name, live at the server,
  -- the number was fresh, and the request wasn't refused as too long (14).
  pub record AskedRequest (deliveries : Deliveries) (count : ℕ) (asked : State) : Type 0 where
    pub before : State
    pub client : ℕ
    pub placed : Placed Client
    pub what : Asked
    pub context : ClientContextState
    pub held : SecurityContext
    pub ready : IsReady before client placed (round_of deliveries what.draw asked) count
    pub may : MayAsk placed.node before.nodes.server deliveries.at context held
    pub code : 0 < what.request.code.0
    pub happens : Happens is_sealing tag before (asking client what) asked
    pub fits : IsNotRefused refusal.datagram_too_long before asked

  -- What a client asked last is answered; and what is assumed goes on.
  abbrev pub AnswersWhatWasAsked : Deliveries → ℕ → State → QuietEnd → Type 0
  AnswersWhatWasAsked deliveries limit asked end =
      (count : ℕ) (it : AskedRequest deliveries count asked) → count ≤ limit
      → IsRound count asked end.is_quiet end.world
      × HasAnswered it.before it.client deliveries.at
      (record { held = it.held; number = it.context.next; text = asked_text it.placed.node it.what.draw it.what.request })
      end.world
      × KeepsThePremise it.before end.world
