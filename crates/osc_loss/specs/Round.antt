-- What is promised of a message and its answer over a network that loses: taken up once, the same answer each time, answered or given up, sent
-- again by the timetable, and all of it where one copy arrives and one copy of the answer comes back in time.
use Rattle.std.specs.Prelude.{◌≡◌, ◌≢◌, ℕ, ◌+◌, ◌*◌, ◌<◌, ◌≤◌, List, [], ◌∷◌, ◌++◌, Option, Some, None}
use Rattle.std.specs.List.{AllByRecursion, filter_map}
use Rattle.osc_model.specs.{quiet, quiet_or_lost, sends}
use Rattle.osc_model.specs.declared.node.Draw.{Draw}
use Rattle.osc_model.specs.declared.node.Moment.{Moment}
use Rattle.osc_model.specs.declared.step.ClientResult.{ClientResult}
use Rattle.osc_model.specs.declared.step.ClientResult.TheVariants as result
use Rattle.osc_model.specs.declared.step.Datagram.{Datagram}
use Rattle.osc_model.specs.declared.step.Entry.{Entry}
use Rattle.osc_model.specs.declared.step.Step.{Step}
use Rattle.osc_coap.specs.Message.{Message}
use Rattle.osc_message.specs.{GoesOut, datagram, schedule}
use Rattle.osc_message.specs.declared.due.Due.{Due}
use Rattle.osc_message.specs.declared.due.Due.TheVariants.{Send, GiveUp}
use Rattle.osc_ccm.specs.{Sealings}
use Rattle.osc_authz.specs.{ClientContextState}
use Rattle.osc_server.specs.State.{State as Server}
use Rattle.osc_client.specs.State.{State as Client}
use Rattle.osc_rounds.specs.{Ends}
use Rattle.osc_loss.specs.Road.{AreLeavingWaiting, AreWithin, AtClient, AtServer, ClientTick, Event, Goes, Happening, IsReadyAtFirst, IsRemembered, OtherAtClient, Road, ServerTick, happening_of}

-- what the server answers, how it is and when it is then, and the step by which the client learns that answer
pub record Given : Type 0 where
  pub answer : Message
  pub server : Server
  pub now : Moment
  pub told : Step

abbrev pub request_of : Road → Datagram
request_of road = datagram road.route.server_at road.message

abbrev pub reply_of : Road → Given → Datagram
reply_of road given = datagram road.route.at given.answer

-- ---- of a list of happenings

-- no copy of the message comes to the server; no reply to it comes to the client
abbrev pub IsNotAtServer : Event → Type 0
IsNotAtServer (AtServer now draw sent) = ⊥
IsNotAtServer event = Unit {0}

abbrev pub NoneAtServer : List Happening → Type 0
NoneAtServer all = AllByRecursion (λ happening. IsNotAtServer happening.event) all

abbrev pub IsNotAtClient : Event → Type 0
IsNotAtClient (AtClient now draw sent) = ⊥
IsNotAtClient event = Unit {0}

abbrev pub NoneAtClient : List Happening → Type 0
NoneAtClient all = AllByRecursion (λ happening. IsNotAtClient happening.event) all

-- what was served of copies of the message
abbrev pub entry_by : Event → Step → Option Entry
entry_by (AtServer now draw sent) step = step.notes.served
entry_by event step = None

abbrev pub entries_of : List Happening → List Entry
entries_of all = filter_map (λ happening. entry_by happening.event happening.step) all

-- what the client learnt
abbrev pub result_by : Event → Step → Option ClientResult
result_by (ClientTick now) step = step.notes.result
result_by (AtClient now draw sent) step = step.notes.result
result_by (OtherAtClient came) step = step.notes.result
result_by event step = None

abbrev pub results_of : List Happening → List ClientResult
results_of all = filter_map (λ happening. result_by happening.event happening.step) all

-- the moments of the client's ticks
abbrev pub tick_of : Event → Option Moment
tick_of (ClientTick now) = Some now
tick_of event = None

abbrev pub ticks_of : List Happening → List Moment
ticks_of all = filter_map (λ happening. tick_of happening.event) all

-- ---- sent again

-- what is due goes out, all of it, or is lost for lack of memory, which the notes say; and nothing else is noted
abbrev pub SendsDue : List Datagram → Step → Type 0
SendsDue due step = GoesOut step.notes.lost due step.out × (step.notes ≡ quiet_or_lost step.notes.lost)

-- nothing goes out, and the client learns that its time is over
abbrev pub GivesUp : Step → Type 0
GivesUp step = (step.out ≡ []) × (step.notes ≡ record quiet { result = Some result.TimedOut; lost = step.notes.lost })

-- what is done of the timetable at a tick: nothing; the same bytes go out again; or the client gives up
abbrev pub DoesSo : Road → List (Moment × Due) → Step → Type 0
DoesSo road [] step = SendsDue [] step
DoesSo road ((now, Send) ∷ []) step = SendsDue (request_of road ∷ []) step
DoesSo road ((now, GiveUp) ∷ []) step = GivesUp step
DoesSo road done step = ⊥

-- Each tick of the client, as long as no reply came, does what the timetable over the ticks so far has more with it.
abbrev pub IsByTimetable : Road → List Happening → Type 0
IsByTimetable road all =
    (before after : List Happening) (now : Moment) (step : Step) → all ≡ before ++ happening_of (ClientTick now) step ∷ after → NoneAtClient before
    → (done : List (Moment × Due))
    × (schedule road.went road.timeout (ticks_of before ++ now ∷ []) ≡ schedule road.went road.timeout (ticks_of before) ++ done)
    × DoesSo road done step

-- ---- given up

-- when it is given up: 31 times the timeout after it first went out (RFC 7252 section 4.8)
abbrev pub end_of : Road → ℕ
end_of road = road.went.ms + 31 * road.timeout

-- the client gives up at a tick, not before its end, and no reply came before
pub record IsGivenUp (road : Road) (all : List Happening) : Type 0 where
  pub before : List Happening
  pub after : List Happening
  pub now : Moment
  pub step : Step
  pub all_is : all ≡ before ++ happening_of (ClientTick now) step ∷ after
  pub none : NoneAtClient before
  pub late : end_of road ≤ now.ms
  pub results : results_of all ≡ result.TimedOut ∷ []

-- a reply comes to the client, and before it no tick at its end or later
abbrev pub RepliesInTimeBy : Road → Event → Type 0 → Type 0
RepliesInTimeBy road (AtClient now draw sent) later = Unit {0}
RepliesInTimeBy road (ClientTick now) later = (now.ms < end_of road) × later
RepliesInTimeBy road event later = later

abbrev pub RepliesInTime : Road → List Happening → Type 0
RepliesInTime road [] = ⊥
RepliesInTime road (happening ∷ later) = RepliesInTimeBy road happening.event (RepliesInTime road later)

-- ---- the same answer each time

-- a copy that comes later is answered by the bytes of the first answer, and nothing else is sent
abbrev pub AnswersAgain : Road → Given → Event → Step → Type 0
AnswersAgain road given (AtServer now draw sent) step = step ≡ sends (reply_of road given ∷ [])
AnswersAgain road given (ServerTick now) step = step ≡ sends []
AnswersAgain road given event step = Unit {0}

-- ---- answered

abbrev pub list_of : (A : Type 0) → Option A → List A
list_of A None = []
list_of A (Some one) = one ∷ []

-- The first reply that comes while the client waits is what it learns.
pub record IsLearntFirst (all : List Happening) (given : Given) : Type 0 where
  pub before : List Happening
  pub after : List Happening
  pub now : Moment
  pub draw : Draw
  pub sent : Datagram
  pub step : Step
  pub all_is : all ≡ before ++ happening_of (AtClient now draw sent) step ∷ after
  pub none : NoneAtClient before
  pub told : step ≡ given.told
  pub results : results_of all ≡ list_of ClientResult given.told.notes.result

abbrev pub IsIdle : Client → Type 0
IsIdle client = (client.waiting ≡ None) × (client.endpoint.sending ≡ [])

-- `is_sealing algorithm` is the relation of the algorithm's cipher. `Makes before now draw step after given` says what a server makes of the
-- message, where it is new there, and `Keeps given context` which context the client has once it has learnt that.
module _ (is_sealing : Sealings) (Makes : Server → Moment → Draw → Step → Server → Given → Type 0) (Keeps : Given → Option ClientContextState → Type 0) (road : Road) (start : Ends) where
  -- the first copy that comes is taken up, by the server as it is then
  pub record IsTakenUpFirst (all : List Happening) (last : Ends) (given : Given) : Type 0 where
    pub before : List Happening
    pub after : List Happening
    pub now : Moment
    pub draw : Draw
    pub sent : Datagram
    pub step : Step
    pub ends : Ends
    pub server : Server
    pub all_is : all ≡ before ++ happening_of (AtServer now draw sent) step ∷ after
    pub none : NoneAtServer before
    pub leads : Goes is_sealing road.route start before ends
    pub made : Makes ends.server now draw step server given
    pub goes_on : Goes is_sealing road.route (record ends { server = server; replies = step.out ++ ends.replies }) after last
    pub again : AllByRecursion (λ happening. AnswersAgain road given happening.event happening.step) after
    pub entries : entries_of all ≡ list_of Entry step.notes.served

  -- none comes, and nothing is served of it; or the first that comes is taken up, and each later one is answered by the same bytes
  pub data IsTakenUpOnce (all : List Happening) (last : Ends) : Type 0 where
    unheard : NoneAtServer all → entries_of all ≡ [] → IsTakenUpOnce all last
    taken_up : (given : Given) → IsTakenUpFirst all last given → IsTakenUpOnce all last

  -- The client still waits, and learnt nothing; or it is answered, once; or it gave up; and then it waits for nothing more, and nothing is
  -- open.
  pub data EndsOnce (all : List Happening) (last : Ends) : Type 0 where
    waits : NoneAtClient all → results_of all ≡ [] → last.client.waiting ≢ None → EndsOnce all last
    answered : (given : Given) → IsTakenUpFirst all last given → IsLearntFirst all given → IsIdle last.client → Keeps given last.client.context → EndsOnce all last
    gave_up : IsGivenUp road all → IsIdle last.client → EndsOnce all last

  -- it is answered, by what was taken up
  pub record IsAnsweredInTime (all : List Happening) (last : Ends) : Type 0 where
    pub given : Given
    pub taken_up : IsTakenUpFirst all last given
    pub learnt : IsLearntFirst all given

  -- all that is promised
  pub record IsAnsweredOverLoss (all : List Happening) (last : Ends) : Type 0 where
    pub taken_up_once : IsTakenUpOnce all last
    pub ends_once : EndsOnce all last
    pub sent_again : IsByTimetable road all
    pub both : RepliesInTime road all → IsAnsweredInTime all last

  -- All of it is so of whatever happens, where at the server that is in time, remembered and ready, and at the client leaves what waits.
  abbrev pub IsAnsweredWhateverComes : (Server → Moment → Draw → Type 0) → Type 0
  IsAnsweredWhateverComes Ready =
      (all : List Happening) (last : Ends) (goes : Goes is_sealing road.route start all last)
      → AreWithin road.route all → IsRemembered road all → AreLeavingWaiting road all → IsReadyAtFirst is_sealing Ready road.route start all last goes
      → IsAnsweredOverLoss all last
