-- A request that goes straight to the server over a network that loses, repeats, delays and reorders: what happens at both ends, and what
-- each of it comes to.
use Rattle.std.specs.Prelude.{◌≡◌, ℕ, ◌+◌, ◌<◌, ◌≤◌, List, [], ◌∷◌, ◌++◌, Some, None}
use Rattle.std.specs.List.{AllByRecursion}
use Rattle.osc_model.specs.{apply_read, exchange_lifetime, quiet, quiet_or_lost, sends}
use Rattle.osc_model.specs.Tree.{Tree}
use Rattle.osc_model.specs.declared.node.Draw.{Draw}
use Rattle.osc_model.specs.declared.node.Moment.{Moment}
use Rattle.osc_model.specs.declared.node.Peer.{Peer}
use Rattle.osc_model.specs.declared.reply.Reply.{Reply}
use Rattle.osc_model.specs.declared.step.ClientResult.TheVariants as result
use Rattle.osc_model.specs.declared.step.Datagram.{Datagram}
use Rattle.osc_model.specs.declared.step.Step.{Step}
use Rattle.osc_coap.specs.Message.{Message}
use Rattle.osc_message.specs.{GoesOut, datagram}
use Rattle.osc_options.specs.{read_request, reply_text}
use Rattle.osc_ccm.specs.{Sealings}
use Rattle.osc_authz.specs.{DeskState, In, IsLive, holder_at}
use Rattle.osc_run.specs.{response_note, Replies as AppliesTo}
use Rattle.osc_server.specs.State.{State as Server}
use Rattle.osc_server.specs.{standing_of, notes_of_request, Hears as ServerHears}
use Rattle.osc_server.specs.Hearing.{Ticks as ServerTicks}
use Rattle.osc_client.specs.State.{State as Client}
use Rattle.osc_client.specs.{Hears as ClientHears, Ticks as ClientTicks}
use Rattle.osc_rounds.specs.AskRound.{StraightRequest}
use Rattle.osc_rounds.specs.Asked.{HasServed}

-- ---- what happens

-- A tick of the client, or of the server. Or a datagram comes to the server, or to the client: one that the other sent in this round,
-- any number of times and in any order. What is lost doesn't come.
pub data Event : Type 0 where
  ClientTick : Moment → Event
  ServerTick : Moment → Event
  AtServer : Moment → Draw → Datagram → Event
  AtClient : Moment → Draw → Datagram → Event

-- an event, and the step that it caused
pub record Happening : Type 0 where
  pub event : Event
  pub step : Step

-- how the round stands: both ends, and all that each sent to the other in it
pub record Ends : Type 0 where
  pub client : Client
  pub server : Server
  pub requests : List Datagram
  pub replies : List Datagram

-- the way of a round: the addresses of client and server, and the moment from which anything happens at the server
pub record Route : Type 0 where
  pub at : Peer
  pub server_at : Peer
  pub now : Moment

abbrev pub route_of : StraightRequest → Route
route_of way = record { at = way.at; server_at = way.server_at; now = way.now }

-- a request on the road: how it goes, when it first went out, its message, and the initial timeout of that in ms
pub record OnTheRoad : Type 0 where
  pub way : StraightRequest
  pub went : Moment
  pub message : Message
  pub timeout : ℕ

abbrev pub request_of : OnTheRoad → Datagram
request_of road = datagram road.way.server_at road.message

-- `is_sealing algorithm` is the relation of the algorithm's cipher
module _ (is_sealing : Sealings) where
  -- one end takes a step, and what that sends is added to what it sent
  abbrev pub Happens : Route → Ends → Event → Step → Ends → Type 0
  Happens way old (ClientTick now) step new =
      (client : Client) × ClientTicks old.client now step client × (new ≡ record old { client = client; requests = step.out ++ old.requests })
  Happens way old (ServerTick now) step new =
      (server : Server) × ServerTicks old.server now step server × (new ≡ record old { server = server; replies = step.out ++ old.replies })
  Happens way old (AtServer now draw sent) step new =
      In sent old.requests × ((server : Server)
      × ServerHears is_sealing old.server (record { at = now; from = way.at; draw = draw; what = sent.bytes }) step server
      × (new ≡ record old { server = server; replies = step.out ++ old.replies }))
  Happens way old (AtClient now draw sent) step new =
      In sent old.replies × ((client : Client)
      × ClientHears is_sealing old.client (record { at = now; from = way.server_at; draw = draw; what = sent.bytes }) step client
      × (new ≡ record old { client = client; requests = step.out ++ old.requests }))

  -- all of these happen, one after the other
  abbrev pub Goes : Route → Ends → List Happening → Ends → Type 0
  Goes way old [] new = new ≡ old
  Goes way old (happening ∷ later) new = (next : Ends) × Happens way old happening.event happening.step next × Goes way next later new

-- what each end sent goes to the other
pub record AreAddressed (route : Route) (ends : Ends) : Type 0 where
  pub requests : AllByRecursion (λ sent. sent.to ≡ route.server_at) ends.requests
  pub replies : AllByRecursion (λ sent. sent.to ≡ route.at) ends.replies

-- ---- when

-- What happens at the server does within the lifetime of what it notes. Of the client's clock nothing is asked, and of no clock that it
-- rises.
abbrev pub IsWithin : Route → Moment → Type 0
IsWithin way now = (way.now.ms ≤ now.ms) × (now.ms < way.now.ms + exchange_lifetime)

abbrev pub IsEventWithin : Route → Event → Type 0
IsEventWithin way (ServerTick now) = IsWithin way now
IsEventWithin way (AtServer now draw sent) = IsWithin way now
IsEventWithin way event = Unit {0}

abbrev pub AreWithin : Route → List Happening → Type 0
AreWithin way all = AllByRecursion (λ happening. IsEventWithin way happening.event) all

-- the context lives when the first copy comes to the server, if one does
abbrev pub LivesBy : StraightRequest → Event → Type 0 → Type 0
LivesBy way (AtServer now draw sent) later = IsLive (standing_of way.server now) way.held
LivesBy way event later = later

abbrev pub LivesAtFirst : StraightRequest → List Happening → Type 0
LivesAtFirst way [] = Unit {0}
LivesAtFirst way (happening ∷ later) = LivesBy way happening.event (LivesAtFirst way later)

-- ---- what it comes to

-- what the server made of the request: the reply, the resources and the desk after it, and the message that carries the reply
pub record Given : Type 0 where
  pub reply : Reply
  pub tree : Tree
  pub desk : DeskState
  pub answer : Message

-- it is served, at this moment: applied to the resources under its context's scope, as one entry, and one datagram goes back
pub record IsServedAt (road : OnTheRoad) (now : Moment) (given : Given) (step : Step) : Type 0 where
  pub applied : AppliesTo road.way.server.tree
      (apply_read road.way.server.desk.rules.revoked road.way.server.tree road.way.held.scope (read_request road.way.text)) given.reply given.tree
  pub desk : HasServed road.way.held.name.client_id road.way.number road.way.server.desk given.desk
  pub told : step
      ≡ record {
        out = datagram road.way.at given.answer ∷ [];
        notes = notes_of_request now road.way.held (holder_at road.way.held.name.client_id road.way.server.desk.table) road.way.number road.way.text given.reply;
      }

-- the reply that was given is what the client learns
abbrev pub answering : OnTheRoad → Given → Step
answering road given = record {
  out = [];
  notes = record quiet {
    opens = Some (response_note road.way.held.name road.way.number None (reply_text given.reply));
    result = Some (result.Answer given.reply);
  };
}

-- what is due goes out, all of it, or is lost for lack of memory, which the notes say; and nothing else is noted
abbrev pub SendsDue : List Datagram → Step → Type 0
SendsDue due step = GoesOut step.notes.lost due step.out × (step.notes ≡ quiet_or_lost step.notes.lost)

-- nothing goes out, and the client learns that its time is over
abbrev pub GivesUp : Step → Type 0
GivesUp step = (step.out ≡ []) × (step.notes ≡ record quiet { result = Some result.TimedOut; lost = step.notes.lost })
