-- A confirmable message that goes straight to the server over a network that loses, repeats, delays and reorders, while whatever else comes
-- to both ends too: what happens, and what is asked of that.
use Rattle.std.specs.Prelude.{◌≡◌, ◌≢◌, ℕ, ◌+◌, ◌<◌, true, false, List, [], ◌∷◌, ◌++◌}
use Rattle.std.specs.List.{AllByRecursion}
use Rattle.osc_model.specs.{same_peer}
use Rattle.osc_model.specs.Arrival.{Arrival}
use Rattle.osc_model.specs.declared.node.Draw.{Draw}
use Rattle.osc_model.specs.declared.node.Moment.{Moment}
use Rattle.osc_model.specs.declared.node.Peer.{Peer}
use Rattle.osc_model.specs.declared.step.Datagram.{Datagram}
use Rattle.osc_model.specs.declared.step.Step.{Step}
use Rattle.osc_coap.specs.{Spells, is_request_code}
use Rattle.osc_coap.specs.Message.{Message}
use Rattle.osc_coap.specs.declared.kind.Kind.{Kind}
use Rattle.osc_coap.specs.declared.kind.Kind.TheVariants.{Acknowledgement, Reset}
use Rattle.osc_dedup.specs.{most_entries}
use Rattle.osc_ccm.specs.{Sealings}
use Rattle.osc_authz.specs.{In}
use Rattle.osc_server.specs.State.{State as Server}
use Rattle.osc_server.specs.{Hears as ServerHears}
use Rattle.osc_server.specs.Hearing.{Ticks as ServerTicks}
use Rattle.osc_client.specs.State.{State as Client}
use Rattle.osc_client.specs.{Hears as ClientHears, Ticks as ClientTicks}
use Rattle.osc_rounds.specs.{Ends, IsWithin, Route}

-- ---- what happens

-- A tick of the client, or of the server. A datagram comes to the server, or to the client, that the other sent for this message, any number
-- of times and in any order; what is lost doesn't come. Or whatever else comes to either, from anyone.
pub data Event : Type 0 where
  ClientTick : Moment → Event
  ServerTick : Moment → Event
  AtServer : Moment → Draw → Datagram → Event
  AtClient : Moment → Draw → Datagram → Event
  OtherAtServer : Arrival (List ℕ) → Event
  OtherAtClient : Arrival (List ℕ) → Event

-- an event, and the step that it caused
pub record Happening : Type 0 where
  pub event : Event
  pub step : Step

abbrev pub happening_of : Event → Step → Happening
happening_of event step = record { event = event; step = step }

-- a message on its way: the addresses, and the moment from which anything happens at the server; the message, when it first went out, and
-- its initial timeout in ms
pub record Road : Type 0 where
  pub route : Route
  pub message : Message
  pub went : Moment
  pub timeout : ℕ

-- `is_sealing algorithm` is the relation of the algorithm's cipher
module _ (is_sealing : Sealings) where
  -- One end takes a step. The copies of the message that go out at the client's ticks, and what the server answers to them, are added to what
  -- was sent.
  abbrev pub Happens : Route → Ends → Event → Step → Ends → Type 0
  Happens route old (ClientTick now) step new =
      (client : Client) × ClientTicks old.client now step client × (new ≡ record old { client = client; requests = step.out ++ old.requests })
  Happens route old (ServerTick now) step new =
      (server : Server) × ServerTicks old.server now step server × (new ≡ record old { server = server })
  Happens route old (AtServer now draw sent) step new =
      In sent old.requests × ((server : Server)
      × ServerHears is_sealing old.server (record { at = now; from = route.at; draw = draw; what = sent.bytes }) step server
      × (new ≡ record old { server = server; replies = step.out ++ old.replies }))
  Happens route old (AtClient now draw sent) step new =
      In sent old.replies × ((client : Client)
      × ClientHears is_sealing old.client (record { at = now; from = route.server_at; draw = draw; what = sent.bytes }) step client
      × (new ≡ record old { client = client }))
  Happens route old (OtherAtServer came) step new =
      (server : Server) × ServerHears is_sealing old.server came step server × (new ≡ record old { server = server })
  Happens route old (OtherAtClient came) step new =
      (client : Client) × ClientHears is_sealing old.client came step client × (new ≡ record old { client = client })

  -- all of these happen, one after the other
  abbrev pub Goes : Route → Ends → List Happening → Ends → Type 0
  Goes route old [] new = new ≡ old
  Goes route old (happening ∷ later) new = (next : Ends) × Happens route old happening.event happening.step next × Goes route next later new

  -- ---- how the server is when the first copy comes, if one does

  abbrev pub IsReadyBy : (Server → Moment → Draw → Type 0) → Ends → Event → Type 0 → Type 0
  IsReadyBy Ready old (AtServer now draw sent) later = Ready old.server now draw
  IsReadyBy Ready old event later = later

  abbrev pub IsReadyAtFirst : (Server → Moment → Draw → Type 0) → (route : Route) (old : Ends) (all : List Happening) (new : Ends) → Goes route old all new → Type 0
  IsReadyAtFirst Ready route old [] new goes = Unit {0}
  IsReadyAtFirst Ready route old (happening ∷ later) new goes =
      IsReadyBy Ready old happening.event (IsReadyAtFirst Ready route goes.0 later new goes.2)

-- ---- when

-- What happens at the server does within the lifetime of what it notes of the message. Of the client's clock nothing is asked, and of no
-- clock that it rises.
abbrev pub IsEventWithin : Route → Event → Type 0
IsEventWithin route (ServerTick now) = IsWithin route now
IsEventWithin route (AtServer now draw sent) = IsWithin route now
IsEventWithin route (OtherAtServer came) = IsWithin route came.at
IsEventWithin route event = Unit {0}

abbrev pub AreWithin : Route → List Happening → Type 0
AreWithin route all = AllByRecursion (λ happening. IsEventWithin route happening.event) all

-- ---- what else comes to the server

-- where it is a message from this peer, it has another message ID
abbrev pub IsAnotherMessage : Peer → ℕ → Arrival (List ℕ) → Type 0
IsAnotherMessage peer id came = same_peer peer came.from ≡ true → (message : Message) → Spells came.what message → message.id ≢ id

-- one more that is answered counts, and one that nothing is sent for doesn't
abbrev pub IfAnswered : List Datagram → Type 0 → Type 0 → Type 0
IfAnswered [] same more = same
IfAnswered (sent ∷ out) same more = more

abbrev pub AreFewBy : ℕ → Event → Step → Type 0 → Type 0 → Type 0
AreFewBy since (AtServer now draw sent) step same more = (since < most_entries) × same
AreFewBy since (OtherAtServer came) step same more = IfAnswered step.out same more
AreFewBy since event step same more = same

-- where so many others were answered since the first copy came, fewer than 64 were at each later one
abbrev pub AreFewSince : ℕ → List Happening → Type 0
AreFewSince since [] = Unit {0}
AreFewSince since (happening ∷ later) = AreFewBy since happening.event happening.step (AreFewSince since later) (AreFewSince (since + 1) later)

-- Before the first copy comes, no message of its ID does from the client's address; and between it and the last one fewer than 64 others are
-- answered.
abbrev pub IsRememberedBy : Road → Event → Type 0 → Type 0 → Type 0
IsRememberedBy road (AtServer now draw sent) before since = since
IsRememberedBy road (OtherAtServer came) before since = IsAnotherMessage road.route.at road.message.id came × before
IsRememberedBy road event before since = before

abbrev pub IsRemembered : Road → List Happening → Type 0
IsRemembered road [] = Unit {0}
IsRemembered road (happening ∷ later) = IsRememberedBy road happening.event (IsRemembered road later) (AreFewSince 0 later)

-- ---- what else comes to the client

-- an acknowledgement and a Reset name the message that they are for by its ID (RFC 7252 section 4.2)
abbrev pub IsNaming : Kind → Type 0
IsNaming Acknowledgement = Unit {0}
IsNaming Reset = Unit {0}
IsNaming kind = ⊥

-- it is no acknowledgement and no Reset of the message, and no response with its token
pub record IsUnrelated (road : Road) (message : Message) : Type 0 where
  pub id : IsNaming message.kind → message.id ≢ road.message.id
  pub token : is_request_code message.code ≡ false → message.token ≢ road.message.token

-- nor is what comes from the server's address
abbrev pub LeavesWaiting : Road → Arrival (List ℕ) → Type 0
LeavesWaiting road came = same_peer road.route.server_at came.from ≡ true → (message : Message) → Spells came.what message → IsUnrelated road message

-- up to the first reply, if one comes
abbrev pub AreLeavingWaitingBy : Road → Event → Type 0 → Type 0
AreLeavingWaitingBy road (AtClient now draw sent) later = Unit {0}
AreLeavingWaitingBy road (OtherAtClient came) later = LeavesWaiting road came × later
AreLeavingWaitingBy road event later = later

abbrev pub AreLeavingWaiting : Road → List Happening → Type 0
AreLeavingWaiting road [] = Unit {0}
AreLeavingWaiting road (happening ∷ later) = AreLeavingWaitingBy road happening.event (AreLeavingWaiting road later)
