-- What is promised of a request over a network that loses: served once, the same answer each time, answered, asked again by the timetable,
-- and all of it where one copy arrives and one copy of the reply comes back in time.
use Rattle.std.specs.Prelude.{◌≡◌, ◌≢◌, ℕ, ◌+◌, ◌*◌, ◌<◌, ◌≤◌, List, [], ◌∷◌, ◌++◌, Option, Some, None}
use Rattle.std.specs.List.{AllByRecursion, filter_map}
use Rattle.osc_model.specs.{sends}
use Rattle.osc_model.specs.declared.node.Draw.{Draw}
use Rattle.osc_model.specs.declared.node.Moment.{Moment}
use Rattle.osc_model.specs.declared.step.ClientResult.{ClientResult}
use Rattle.osc_model.specs.declared.step.ClientResult.TheVariants as result
use Rattle.osc_model.specs.declared.step.Datagram.{Datagram}
use Rattle.osc_model.specs.declared.step.Entry.{Entry}
use Rattle.osc_model.specs.declared.step.Step.{Step}
use Rattle.osc_message.specs.{datagram}
use Rattle.osc_message.specs.Schedule.{schedule}
use Rattle.osc_message.specs.declared.due.Due.{Due}
use Rattle.osc_message.specs.declared.due.Due.TheVariants.{Send, GiveUp}
use Rattle.osc_server.specs.State.{State as Server}
use Rattle.osc_client.specs.State.{State as Client}
use Rattle.osc_coap.specs.Message.{Message}
use Rattle.osc_options.specs.{read_request}
use Rattle.osc_ccm.specs.{Sealings}
use Rattle.osc_message.specs.Timeout.{timeout_of}
use Rattle.osc_client.specs.{Asked}
use Rattle.osc_rounds.specs.AskRound.{StraightRequest}
use Rattle.osc_rounds.specs.Loss.{AreAddressed, AreWithin, AtClient, AtServer, ClientTick, Ends, Event, Given, GivesUp, Goes, Happening, IsServedAt, LivesAtFirst, OnTheRoad, SendsDue, ServerTick, answering, request_of, route_of}

-- ---- of a list of happenings

-- no copy of the request comes to the server; no reply comes to the client
abbrev pub IsNotAtServer : Event → Type 0
IsNotAtServer (AtServer now draw sent) = ⊥
IsNotAtServer event = Unit {0}

abbrev pub NoneAtServer : List Happening → Type 0
NoneAtServer all = AllByRecursion (λ happening. IsNotAtServer happening.event) all

abbrev pub IsNotAtClient : Event → Type 0
IsNotAtClient (AtClient now draw sent) = ⊥
IsNotAtClient event = Unit {0}

abbrev pub NoneAtClient : List Happening → Type 0
NoneAtClient all = AllByRecursion (λ happening. IsNotAtClient happening.event) all

-- what was served, and what the client learnt
abbrev pub entries_of : List Happening → List Entry
entries_of all = filter_map (λ happening. happening.step.notes.served) all

abbrev pub results_of : List Happening → List ClientResult
results_of all = filter_map (λ happening. happening.step.notes.result) all

-- the moments of the client's ticks
abbrev pub tick_of : Event → Option Moment
tick_of (ClientTick now) = Some now
tick_of event = None

abbrev pub ticks_of : List Happening → List Moment
ticks_of all = filter_map (λ happening. tick_of happening.event) all

abbrev pub happening_of : Event → Step → Happening
happening_of event step = record { event = event; step = step }

-- ---- served once, and the same answer each time

abbrev pub entry_of : OnTheRoad → Moment → Given → Entry
entry_of road now given =
    record {
      context = road.way.held.name;
      number = road.way.number;
      plaintext = road.way.text;
      request = read_request road.way.text;
      moment = now;
      reply = given.reply;
    }

-- a copy that comes later is answered by the bytes of the first answer, and nothing else is sent
abbrev pub AnswersAgain : OnTheRoad → Given → Event → Step → Type 0
AnswersAgain road given (AtServer now draw sent) step = step ≡ sends (datagram road.way.at given.answer ∷ [])
AnswersAgain road given (ServerTick now) step = step ≡ sends []
AnswersAgain road given event step = Unit {0}

-- the first copy that comes is served
pub record IsServedFirst (road : OnTheRoad) (all : List Happening) (given : Given) : Type 0 where
  pub before : List Happening
  pub after : List Happening
  pub now : Moment
  pub draw : Draw
  pub sent : Datagram
  pub step : Step
  pub all_is : all ≡ before ++ happening_of (AtServer now draw sent) step ∷ after
  pub none : NoneAtServer before
  pub served : IsServedAt road now given step
  pub again : AllByRecursion (λ happening. AnswersAgain road given happening.event happening.step) after
  pub entries : entries_of all ≡ entry_of road now given ∷ []

-- none comes, and nothing is served; or the first that comes is served, as one entry, and each later one is answered by the same bytes
pub data IsServedOnce (road : OnTheRoad) (all : List Happening) (server : Server) : Type 0 where
  unheard : NoneAtServer all → entries_of all ≡ [] → server.tree ≡ road.way.server.tree → server.desk ≡ road.way.server.desk
      → IsServedOnce road all server
  served : (given : Given) → IsServedFirst road all given → server.tree ≡ given.tree
      → server.desk ≡ given.desk → IsServedOnce road all server

-- ---- answered

-- the first reply that comes while the client waits is its answer: that of what was served before
pub record IsAnsweredFirst (road : OnTheRoad) (all : List Happening) (given : Given) : Type 0 where
  pub before : List Happening
  pub after : List Happening
  pub now : Moment
  pub draw : Draw
  pub sent : Datagram
  pub step : Step
  pub all_is : all ≡ before ++ happening_of (AtClient now draw sent) step ∷ after
  pub none : NoneAtClient before
  pub told : step ≡ answering road given
  pub results : results_of all ≡ result.Answer given.reply ∷ []

-- when it is given up: 31 times the timeout after it first went out (RFC 7252 section 4.8)
abbrev pub end_of : OnTheRoad → ℕ
end_of road = road.went.ms + 31 * road.timeout

-- the client gives up at a tick, not before its end, and no reply came before
pub record IsGivenUp (road : OnTheRoad) (all : List Happening) : Type 0 where
  pub before : List Happening
  pub after : List Happening
  pub now : Moment
  pub step : Step
  pub all_is : all ≡ before ++ happening_of (ClientTick now) step ∷ after
  pub none : NoneAtClient before
  pub late : end_of road ≤ now.ms
  pub results : results_of all ≡ result.TimedOut ∷ []

abbrev pub IsIdle : Client → Type 0
IsIdle client = (client.waiting ≡ None) × (client.endpoint.sending ≡ [])

-- it still waits, and learnt nothing; or it is answered, once; or it gave up; and then it waits for nothing more, and nothing is open
pub data EndsOnce (road : OnTheRoad) (all : List Happening) (client : Client) : Type 0 where
  waits : NoneAtClient all → results_of all ≡ [] → client.waiting ≢ None → EndsOnce road all client
  answered : (given : Given) → IsServedFirst road all given → IsAnsweredFirst road all given → IsIdle client → EndsOnce road all client
  gave_up : IsGivenUp road all → IsIdle client → EndsOnce road all client

-- ---- asked again

-- what is done of the timetable at a tick: nothing; the same bytes go out again; or the client gives up
abbrev pub DoesSo : OnTheRoad → List (Moment × Due) → Step → Type 0
DoesSo road [] step = SendsDue [] step
DoesSo road ((now, Send) ∷ []) step = SendsDue (request_of road ∷ []) step
DoesSo road ((now, GiveUp) ∷ []) step = GivesUp step
DoesSo road done step = ⊥

-- Each tick of the client, as long as no reply came, does what the timetable over the ticks so far has more with it.
abbrev pub IsByTimetable : OnTheRoad → List Happening → Type 0
IsByTimetable road all =
    (before after : List Happening) (now : Moment) (step : Step) → all ≡ before ++ happening_of (ClientTick now) step ∷ after → NoneAtClient before
    → (done : List (Moment × Due))
    × (schedule road.went road.timeout (ticks_of before ++ now ∷ []) ≡ schedule road.went road.timeout (ticks_of before) ++ done)
    × DoesSo road done step

-- ---- both

-- a reply comes to the client, and before it no tick at its end or later
abbrev pub RepliesInTimeBy : OnTheRoad → Event → Type 0 → Type 0
RepliesInTimeBy road (AtClient now draw sent) later = Unit {0}
RepliesInTimeBy road (ClientTick now) later = (now.ms < end_of road) × later
RepliesInTimeBy road event later = later

abbrev pub RepliesInTime : OnTheRoad → List Happening → Type 0
RepliesInTime road [] = ⊥
RepliesInTime road (happening ∷ later) = RepliesInTimeBy road happening.event (RepliesInTime road later)

-- then it is answered, by what was served, once
pub record IsAnsweredInTime (road : OnTheRoad) (all : List Happening) : Type 0 where
  pub given : Given
  pub served : IsServedFirst road all given
  pub answered : IsAnsweredFirst road all given

-- all that is promised
pub record IsServedOverLoss (road : OnTheRoad) (all : List Happening) (last : Ends) : Type 0 where
  pub served_once : IsServedOnce road all last.server
  pub ends_once : EndsOnce road all last.client
  pub asked_again : IsByTimetable road all
  pub both : RepliesInTime road all → IsAnsweredInTime road all
  pub addressed : AreAddressed (route_of road.way) last

-- ---- it is asked

-- One datagram goes to the server; and whatever arrives, in time, of what both ends send from then on, all of this is so.
module _ (is_sealing : Sealings) where
  pub record IsAskedOverLoss (way : StraightRequest) (client : Client) (asks : Asked) (first : Step) : Type 0 where
    pub message : Message
    pub out : first.out ≡ datagram client.next_hop message ∷ []
    pub unserved : first.notes.served ≡ None
    pub goes : (all : List Happening) (last : Ends) → AreWithin (route_of way) all → LivesAtFirst way all
        → Goes is_sealing (route_of way) (record { client = way.asked; server = way.server; requests = first.out; replies = [] }) all last
        → IsServedOverLoss (record { way = way; went = asks.at; message = message; timeout = timeout_of asks.draw }) all last
