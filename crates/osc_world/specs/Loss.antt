-- A request over a network that loses: what a client asks from a world that is ready for it, what may happen then, and what that leads to.
use Rattle.std.specs.Prelude.{◌≡◌, ℕ, ◌≤◌, ◌<◌, false, List, [], ◌∷◌, ◌++◌, Some, length, slice_get}
use Rattle.std.specs.List.{AllByRecursion}
use Rattle.osc_model.specs.declared.node.Moment.{Moment}
use Rattle.osc_model.specs.declared.node.Peer.{Peer}
use Rattle.osc_model.specs.declared.step.Datagram.{Datagram}
use Rattle.osc_model.specs.declared.step.Step.{Step}
use Rattle.osc_coap.specs.Message.{Message}
use Rattle.osc_message.specs.{datagram, timeout_of}
use Rattle.osc_ccm.specs.{Tags}
use Rattle.osc_protect.specs.{longest_message, request_length}
use Rattle.osc_authz.specs.{ClientContextState, In, IsLive}
use Rattle.osc_authz.specs.SecurityContext.{SecurityContext}
use Rattle.osc_run.specs.{Noted, by_client, by_server, history}
use Rattle.osc_run.specs.declared.noted.Actor.TheVariants as actor
use Rattle.osc_server.specs.{standing_of}
use Rattle.osc_client.specs.{Asked, plain_of}
use Rattle.osc_client.specs.State.{State as Client}
use Rattle.osc_rounds.specs.{AtClient, AtServer, ClientTick, Ends, Event as RoundEvent, Happening, IsServedOverLoss, IsStraight, IsWithin, MayAsk, OnTheRoad, Route, ServerTick, StraightRequest, asked_text, entries_of, route_of}
use Rattle.osc_world.specs.Nodes.{StandApart}
use Rattle.osc_world.specs.Ready.{asking}
use Rattle.osc_world.specs.Worlds.{State}
use Rattle.osc_world.specs.declared.event.Event.{Event}
use Rattle.osc_world.specs.declared.event.What.{What}
use Rattle.osc_world.specs.declared.event.What.TheVariants as what
use Rattle.osc_world.specs.declared.log.SentDatagram.{SentDatagram}
use Rattle.osc_world.specs.declared.nodes.Placed.{Placed}

-- ---- what is asked, and what may happen

-- a client of this number, here, asks so, under this context, which is that at the server; and the moment from which anything happens
-- there
pub record StraightAsk : Type 0 where
  pub client : ℕ
  pub placed : Placed Client
  pub what : Asked
  pub context : ClientContextState
  pub held : SecurityContext
  pub now : Moment

-- the way from this world, where the client becomes this
abbrev pub way_from : State → StraightAsk → Client → StraightRequest
way_from world ask asked = record {
  asked = asked;
  server = world.nodes.server;
  at = ask.placed.at;
  server_at = world.nodes.server_at;
  now = ask.now;
  held = ask.held;
  number = ask.context.next;
  text = asked_text ask.placed.node ask.what.draw ask.what.request;
}

abbrev pub route_from : State → StraightAsk → Route
route_from world ask = record { at = ask.placed.at; server_at = world.nodes.server_at; now = ask.now }

-- What may happen then: ticks of this client, at any moment; ticks of the server; and deliveries of what was sent from the ask on, any
-- number of times and in any order, while the context lives. What happens at the server does within the lifetime of what it notes.
abbrev pub IsOfRound : State → StraightAsk → Moment → What → Type 0
IsOfRound world ask now (what.Tick (actor.Client number)) = number ≡ ask.client
IsOfRound world ask now (what.Tick actor.Server) = IsWithin (route_from world ask) now
IsOfRound world ask now (what.Deliver number) =
    (length world.sent ≤ number) × IsWithin (route_from world ask) now × IsLive (standing_of world.nodes.server now) ask.held
IsOfRound world ask now event = ⊥

abbrev pub AreOfRound : State → StraightAsk → List Event → Type 0
AreOfRound world ask events = AllByRecursion (λ event. IsOfRound world ask event.moment event.what) events

-- ---- how the world stands

-- it is one that one end sent to the other
pub record IsFrom (at to : Peer) (all : List Datagram) (datagram : SentDatagram) : Type 0 where
  pub one : Datagram
  pub here : In one all
  pub bytes : datagram.bytes ≡ one.bytes
  pub at_is : datagram.from ≡ at
  pub to_is : datagram.to ≡ to

pub data IsOfEnds (route : Route) (ends : Ends) (datagram : SentDatagram) : Type 0 where
  a_request : IsFrom route.at route.server_at ends.requests datagram → IsOfEnds route ends datagram
  a_reply : IsFrom route.server_at route.at ends.replies datagram → IsOfEnds route ends datagram

-- these are the ends in the world, and what was sent since this many datagrams were is of them
pub record AreEnds (client base : ℕ) (route : Route) (world : State) (ends : Ends) : Type 0 where
  pub placed : Placed Client
  pub there : slice_get world.nodes.clients client ≡ Some placed
  pub node : placed.node ≡ ends.client
  pub at : placed.at ≡ route.at
  pub server : world.nodes.server ≡ ends.server
  pub server_at : world.nodes.server_at ≡ route.server_at
  pub apart : StandApart world.nodes
  pub sent : (number : ℕ) (datagram : SentDatagram) → base ≤ number → slice_get world.sent number ≡ Some datagram → IsOfEnds route ends datagram

-- what each step of a round notes, the newest first, before what was noted earlier
abbrev pub noted_of : ℕ → RoundEvent → Step → Noted
noted_of client (ClientTick now) step = by_client client false step.notes
noted_of client (ServerTick now) step = by_server step.notes
noted_of client (AtServer now draw sent) step = by_server step.notes
noted_of client (AtClient now draw sent) step = by_client client false step.notes

abbrev pub noted_with : ℕ → List Happening → List Noted → List Noted
noted_with client [] earlier = earlier
noted_with client (happening ∷ later) earlier = noted_with client later (noted_of client happening.event happening.step ∷ earlier)

-- It went over the network so: these are the client once it had asked, its message, and what happened to both ends; what is promised of
-- them holds; what the steps noted is theirs, and the requests that were served since are those that the server served of it.
pub record HasGoneOverLoss (world : State) (ask : StraightAsk) (last : State) : Type 0 where
  pub asked : Client
  pub first : Step
  pub message : Message
  pub all : List Happening
  pub ends : Ends
  pub out : first.out ≡ datagram world.nodes.server_at message ∷ []
  pub served : IsServedOverLoss
      (record { way = way_from world ask asked; went = ask.what.at; message = message; timeout = timeout_of ask.what.draw }) all ends
  pub stands : AreEnds ask.client (length world.sent) (route_from world ask) last ends
  pub steps : last.steps ≡ noted_with ask.client all (by_client ask.client false first.notes ∷ world.steps)
  pub entries : history last.steps ≡ history world.steps ++ entries_of all

-- `tag algorithm` is how long the tag of the algorithm's cipher is
module _ (tag : Tags) where
  -- the world is ready for it: client and server have a context of one name, live at the server, the number is fresh, the request isn't
  -- too long for a datagram, and the server has heard no message of the ID that it takes
  pub record IsReadyFor (world : State) (ask : StraightAsk) : Type 0 where
    pub here : slice_get world.nodes.clients ask.client ≡ Some ask.placed
    pub straight : IsStraight ask.placed.node world.nodes.server ask.now ask.what.draw ask.placed.at world.nodes.server_at
    pub may : MayAsk ask.placed.node world.nodes.server ask.now ask.context ask.held
    pub code : 0 < ask.what.request.code.0
    pub fits : request_length tag ask.context.name ask.context.next (plain_of ask.placed.node ask.what.draw ask.what.request) ≤ longest_message

  -- Whatever a client asks from a world that is ready for it, straight to the server, and whatever happens then of what may: it went so.
  abbrev pub GoesOverLoss : State → List Event → State → Type 0
  GoesOverLoss world events last =
      (ask : StraightAsk) (later : List Event) → IsReadyFor world ask → events ≡ asking ask.client ask.what ∷ later → AreOfRound world ask later
      → HasGoneOverLoss world ask last
