-- What `osc client` does: it posts its token, and where that makes a security context it sends its request.
use Rattle.std.specs.Prelude.{◌≡◌, ◌≤◌, ◌<◌, ◌⊎◌, ◌+◌, ◌-◌, ◌^◌, ◌++◌, ◌/◌, ◌==◌, min, ℕ, suc, Bool, true, false, List, [], Option, Some, None, codes, if◌then◌else◌, option_map}
use Rattle.osc_model.specs.declared.node.Draw.{Draw}
use Rattle.osc_model.specs.declared.node.Moment.{Moment}
use Rattle.osc_model.specs.declared.request.Request.{Request}
use Rattle.osc_model.specs.declared.step.ClientResult.{ClientResult}
use Rattle.osc_model.specs.declared.step.ClientResult.TheVariants.{Made, Answer}
use Rattle.osc_model.specs.declared.step.Step.{Step}
use Rattle.osc_message.specs.{fresh}
use Rattle.osc_client.specs.{Begins, Requests as Asks, acts_at, IsStep, HostAndPort}
use Rattle.osc_client.specs.State.{State as Client}
use Rattle.osc_words.specs.declared.settings.client.ClientSettings.{ClientSettings}
use Rattle.osc_words.specs.declared.times.Patience.{Patience}
use Rattle.osc_simulation.specs.{learnt_text, is_sealing, tag_of, line}
use Rattle.osc_turn.specs.{ClockAndRandomState, Gives, IsSeeded, Received}
use Rattle.osc_programs.specs.System.{Passed, nothing_passed, then_passed}
use Rattle.osc_turn.specs.Running.{Running}
use Rattle.osc_turn.specs.Time.{ms_of}
use Rattle.osc_programs.specs.Turning.{TakesTurn}
use Rattle.osc_programs.specs.declared.asking.AskEnd.{AskEnd}
use Rattle.osc_programs.specs.declared.asking.AskEnd.TheVariants.{Told, Open}
use Rattle.osc_programs.specs.declared.ended.Ended.{Ended}
use Rattle.osc_programs.specs.declared.ended.Ended.TheVariants.{Done, NotDone}

-- ---- its steps

-- the client posted its token, at the next moment and with the next draw
pub record Posts (old : Running Client) (step : Step) (new : Running Client) : Type 0 where
  pub now : Moment
  pub draw : Draw
  pub gives : Gives old.supply now draw new.supply
  pub posts : Begins old.node now draw step new.node
  pub busy : new.busy ≡ old.busy

-- it sent the request, protected
pub record Sends (request : Request) (old : Running Client) (step : Step) (new : Running Client) : Type 0 where
  pub now : Moment
  pub draw : Draw
  pub gives : Gives old.supply now draw new.supply
  pub asks : Asks is_sealing tag_of old.node (record { at = now; draw = draw; request = request }) step new.node
  pub busy : new.busy ≡ old.busy

-- ---- the outcome of them

-- the outcome of a client's steps: all that passed at its port, and the last result, or none where it still waits
pub record Upshot : Type 0 where
  pub passed : Passed
  pub outcome : AskEnd

-- after what passed before
abbrev pub after_passing : Passed → Upshot → Upshot
after_passing before upshot = record upshot { passed = then_passed before upshot.passed }

-- what a step sends that isn't taken for what a port gave
abbrev pub sent_alone : Step → Passed
sent_alone step = record { received = []; sent = step.out }

-- this outcome, with nothing received and nothing sent
abbrev pub at_once : AskEnd → Upshot
at_once outcome = record { passed = nothing_passed; outcome = outcome }

-- the time of the last reading of its clocks, in milliseconds
abbrev pub time_of : Running Client → ℕ
time_of client = ms_of client.supply.time

-- the time from which on it begins no further turn, where it began to wait so
abbrev pub end_of : Patience → Running Client → ℕ
end_of patience begun = min (time_of begun + patience.millis) (2 ^ 64 - 1)

-- it begins no further turn: none is left, or its time is up
abbrev pub IsOver : ℕ → ℕ → Running Client → Type 0
IsOver until left client = (left ≡ 0) ⊎ (until ≤ time_of client)

-- With this number of turns left it takes turns until it has learnt something, if it hasn't yet: the outcome, and how many turns are left
-- then. Each turn is begun before this time. It is `Open` where it still waits and may begin no further turn, and only there.
pub data Waits (until : ℕ) : ℕ → Option ClientResult → Running Client → Upshot → ℕ → Running Client → Type 0 where
  told : (left : ℕ) (client : Running Client) (result : ClientResult) → Waits until left (Some result) client (at_once (Told result)) left client
  still : (left : ℕ) (client : Running Client) → IsOver until left client → Waits until left None client (at_once Open) left client
  turns : (left rest : ℕ) (old next new : Running Client) (received : List (Option Received)) (step : Step) (upshot : Upshot)
      → time_of old < until → TakesTurn acts_at (IsStep is_sealing) old received step next → Waits until left step.notes.result next upshot rest new
      → Waits until (suc left) None old (after_passing (record { received = received; sent = step.out }) upshot) rest new

-- It sends its request, and what it learns of that is last.
pub record Requests (until left : ℕ) (request : Request) (old : Running Client) (upshot : Upshot) (new : Running Client) : Type 0 where
  pub step : Step
  pub begun : Running Client
  pub sends : Sends request old step begun
  pub waited : Upshot
  pub rest : ℕ
  pub waits : Waits until left step.notes.result begun waited rest new
  pub is : upshot ≡ after_passing (sent_alone step) waited

-- By what it learnt of its post: a context lets it send its request.
abbrev pub GoesOnBy : ℕ → ℕ → Request → ClientResult → Running Client → Upshot → Running Client → Type 0
GoesOnBy until left request Made old upshot new = Requests until left request old upshot new
GoesOnBy until left request result old upshot new = (upshot ≡ at_once (Told result)) × (new ≡ old)

abbrev pub GoesOn : ℕ → ℕ → Request → AskEnd → Running Client → Upshot → Running Client → Type 0
GoesOn until left request (Told result) old upshot new = GoesOnBy until left request result old upshot new
GoesOn until left request Open old upshot new = (upshot ≡ at_once Open) × (new ≡ old)

-- With this patience it posts its token, waits, and goes on by what it learnt. Its time runs from the post on.
pub record Converses (patience : Patience) (request : Request) (old : Running Client) (upshot : Upshot) (new : Running Client) : Type 0 where
  pub step : Step
  pub begun : Running Client
  pub posts : Posts old step begun
  pub exchanged : Upshot
  pub left : ℕ
  pub between : Running Client
  pub waits : Waits (end_of patience begun) patience.turns step.notes.result begun exchanged left between
  pub further : Upshot
  pub goes_on : GoesOn (end_of patience begun) left request exchanged.outcome between further new
  pub is : upshot ≡ after_passing (sent_alone step) (after_passing exchanged.passed further)

-- the same from the start on
pub record Talks (patience : Patience) (request : Request) (old : Client) (outcome : AskEnd) (new : Client) : Type 0 where
  pub start : ClockAndRandomState
  pub seeded : IsSeeded start
  pub passed : Passed
  pub last : Running Client
  pub talks : Converses patience request (record { node = old; busy = None; supply = start }) (record { passed = passed; outcome = outcome }) last
  pub ends : new ≡ last.node

-- ---- the client at first, and what is told at last

-- the client of these settings, which did nothing yet
pub record IsClientOf (settings : ClientSettings) (client : Client) : Type 0 where
  pub token : client.desk.token ≡ settings.token
  pub secret : client.desk.secret ≡ settings.secret
  pub salt : client.desk.salt ≡ settings.salt
  pub id_context : client.desk.id_context ≡ settings.context
  pub alg : client.desk.alg ≡ settings.alg
  pub next_hop : client.next_hop ≡ settings.peer
  pub origin : option_map (λ (origin : HostAndPort). (origin.host, origin.port)) client.origin ≡ settings.origin
  pub context : client.context ≡ None
  pub waiting : client.waiting ≡ None
  pub endpoint : client.endpoint ≡ fresh

-- the line of the last result
abbrev pub outcome_text : AskEnd → List ℕ
outcome_text (Told result) = line (codes "c1 " ++ learnt_text result)
outcome_text Open = line (codes "c1 open")

-- the payload of an answer
abbrev pub raw_text : AskEnd → List ℕ
raw_text (Told (Answer reply)) = reply.payload
raw_text outcome = []

-- what is printed, raw or not
abbrev pub printed_text : Bool → AskEnd → List ℕ
printed_text true outcome = raw_text outcome
printed_text false outcome = outcome_text outcome

-- an answer of class 2 is success
abbrev pub ended_by_result : ClientResult → Ended
ended_by_result (Answer reply) = if reply.code.0 / 32 == 2 then Done else NotDone
ended_by_result result = NotDone

abbrev pub ended_by_outcome : AskEnd → Ended
ended_by_outcome (Told result) = ended_by_result result
ended_by_outcome Open = NotDone
