-- A client that stays: what came of each request of a list, one after another, and how its port and its context went on.
use Rattle.std.specs.Prelude.{◌≡◌, ◌≤◌, ◌+◌, ◌/◌, ◌^◌, ◌-◌, ◌==◌, min, decimal, ℕ, Bool, true, false, not, ◌&&◌, ◌||◌, List, [], ◌∷◌, ◌++◌, Option, Some, None, is_some, flat_map, if◌then◌else◌, codes}
use Rattle.std.specs.List.{list_all}
use Rattle.osc_model.specs.Refusals as refusal
use Rattle.osc_model.specs.declared.node.Draw.{Draw}
use Rattle.osc_model.specs.declared.node.Moment.{Moment}
use Rattle.osc_model.specs.declared.request.Request.{Request}
use Rattle.osc_model.specs.declared.step.ClientResult.TheVariants.{Answer, Made, Unverified, Refused}
use Rattle.osc_model.specs.declared.step.Step.{Step}
use Rattle.osc_client.specs.{acts_at, IsStep}
use Rattle.osc_client.specs.State.{State as Client}
use Rattle.osc_simulation.specs.{is_sealing, learnt_text}
use Rattle.osc_turn.specs.{ClockAndRandomState, Gives, Received}
use Rattle.osc_turn.specs.Running.{Running}
use Rattle.osc_words.specs.declared.times.Patience.{Patience}
use Rattle.osc_programs.specs.Conversation.{Posts, Requests, Waits, end_of, outcome_text, sent_alone}
use Rattle.osc_programs.specs.System.{Passed, nothing_passed, then_passed}
use Rattle.osc_programs.specs.Turning.{TakesTurn}
use Rattle.osc_programs.specs.declared.asking.AskEnd.{AskEnd}
use Rattle.osc_programs.specs.declared.asking.AskEnd.TheVariants.{Told, Open}
use Rattle.osc_programs.specs.declared.ended.Ended.{Ended}
use Rattle.osc_programs.specs.declared.ended.Ended.TheVariants.{BadLine, Done, NotDone, OutOfMemory, TooLong}
use Rattle.osc_programs.specs.declared.requests.About.{About}
use Rattle.osc_programs.specs.declared.requests.About.TheVariants as message
use Rattle.osc_programs.specs.declared.requests.LineEnd.{LineEnd}
use Rattle.osc_programs.specs.declared.requests.Manner.{Manner}

-- ---- one request

-- With this patience it sends the request, once: it goes out, or is refused at once, and then nothing is sent. Its time runs from then on.
pub record Once (patience : Patience) (request : Request) (old : Running Client) (end : LineEnd) (passed : Passed) (new : Running Client) : Type 0 where
  pub until : ℕ
  pub asks : Requests until patience.turns request old (record { passed = passed; outcome = end.outcome }) new
  pub ends : until ≡ end_of patience asks.begun
  pub about : end.about ≡ message.Request
  pub sent : end.sent ≡ not (is_some asks.step.notes.result)

-- It posts its token, and waits: the outcome. Its time runs from the post on.
pub record Renews (patience : Patience) (old : Running Client) (outcome : AskEnd) (passed : Passed) (new : Running Client) : Type 0 where
  pub step : Step
  pub begun : Running Client
  pub posts : Posts old step begun
  pub waited : Passed
  pub left : ℕ
  pub waits : Waits (end_of patience begun) patience.turns step.notes.result begun (record { passed = waited; outcome = outcome }) left new
  pub is : passed ≡ then_passed (sent_alone step) waited

-- the post made a context
abbrev pub is_made : AskEnd → Bool
is_made (Told Made) = true
is_made outcome = false

-- It posts its token, and where that makes a context it sends the request; where it doesn't, the request isn't sent.
pub data AsksAfterPost (patience : Patience) (request : Request) (old : Running Client) : LineEnd → Passed → Running Client → Type 0 where
  stopped : (outcome : AskEnd) (passed : Passed) (new : Running Client) → Renews patience old outcome passed new → is_made outcome ≡ false
      → AsksAfterPost patience request old (record { about = message.Post; sent = false; outcome = outcome }) passed new
  asked : (outcome : AskEnd) (first next : Passed) (between new : Running Client) (end : LineEnd) → Renews patience old outcome first between → is_made outcome ≡ true
      → Once patience request between end next new → AsksAfterPost patience request old end (then_passed first next) new

-- ---- whether it is sent again

-- the server said, unprotected, that it has no such context; who else may have said so nobody knows
abbrev pub is_gone : AskEnd → Bool
is_gone (Told (Unverified code)) = code.0 == 129
is_gone outcome = false

-- it wasn't sent, since there is no context, or all numbers of the context are used up
abbrev pub lacks_context : AskEnd → Bool
lacks_context (Told (Refused number)) = number == refusal.no_context || number == refusal.exhausted
lacks_context outcome = false

-- One new exchange is made, and the request sent again: only where it can't have been served, since it was never sent, unless `again` says more.
abbrev pub goes_again : Bool → LineEnd → Bool
goes_again again end = not end.sent && lacks_context end.outcome || again && is_gone end.outcome

-- after this the next line begins with an exchange: the post was last, or the context is gone
abbrev pub is_stale_by : About → AskEnd → Bool
is_stale_by message.Post outcome = true
is_stale_by message.Request outcome = is_gone outcome

abbrev pub is_stale : LineEnd → Bool
is_stale end = is_stale_by end.about end.outcome

-- it was sent the first time, or the second time
abbrev pub sent_by : Bool → LineEnd → LineEnd
sent_by first end = record end { sent = first || end.sent }

-- What came of one request, of a client whose context was told to be gone or not.
pub data Attends (again : Bool) (patience : Patience) (request : Request) (old : Running Client) (stale : Bool) : LineEnd → Passed → Running Client → Type 0 where
  renewed : (end : LineEnd) (passed : Passed) (new : Running Client) → stale ≡ true → AsksAfterPost patience request old end passed new
      → Attends again patience request old stale end passed new
  once : (end : LineEnd) (passed : Passed) (new : Running Client) → stale ≡ false → Once patience request old end passed new → goes_again again end ≡ false
      → Attends again patience request old stale end passed new
  twice : (first end : LineEnd) (before after : Passed) (between new : Running Client) → stale ≡ false → Once patience request old first before between
      → goes_again again first ≡ true → AsksAfterPost patience request between end after new
      → Attends again patience request old stale (sent_by first.sent end) (then_passed before after) new

-- ---- one after another

-- turns of a client that nothing is asked of, each after a look at the clock
pub data Idles (first : Running Client) : Passed → Running Client → Type 0 where
  at_first : Idles first nothing_passed first
  turn : (passed : Passed) (between new : Running Client) (now : Moment) (draw : Draw) (supply : ClockAndRandomState) (received : List (Option Received)) (step : Step)
      → Idles first passed between → Gives between.supply now draw supply → TakesTurn acts_at (IsStep is_sealing) (record between { supply = supply }) received step new
      → Idles first (then_passed passed (record { received = received; sent = step.out })) new

-- such turns, until a moment is no earlier than this one
pub record Pauses (due : ℕ) (old : Running Client) (now : Moment) (passed : Passed) (new : Running Client) : Type 0 where
  pub last : Running Client
  pub idles : Idles old passed last
  pub draw : Draw
  pub supply : ClockAndRandomState
  pub gives : Gives last.supply now draw supply
  pub late : due ≤ now.ms
  pub is : new ≡ record last { supply = supply }

-- how far it is: the client; from which moment on the next request may be sent; whether its context was told to be gone; what came of each request so far,
-- and what passed at the port
pub record Progress : Type 0 where
  pub client : Running Client
  pub due : ℕ
  pub stale : Bool
  pub ends : List LineEnd
  pub passed : Passed

-- a client with this supply that was asked for nothing yet
abbrev pub begun : Client → ClockAndRandomState → Progress
begun client start = record { client = record { node = client; busy = None; supply = start }; due = 0; stale = false; ends = []; passed = nothing_passed }

-- One request more, of a client that is due at this moment: what came of it and what passed, and from when on the next one is due.
pub record Attended (manner : Manner) (request : Request) (old : Running Client) (due : ℕ) (stale : Bool) (end : LineEnd) (passed : Passed)
    (new : Running Client) (next_due : ℕ) (next_stale : Bool) : Type 0 where
  pub now : Moment
  pub waited : Passed
  pub ready : Running Client
  pub pauses : Pauses due old now waited ready
  pub after : Passed
  pub attends : Attends manner.again manner.patience request ready stale end after new
  pub all : passed ≡ then_passed waited after
  pub next : next_due ≡ min (now.ms + manner.pause) (2 ^ 64 - 1)
  pub gone : next_stale ≡ is_stale end

-- all of them, in order; a line without a request is nothing
pub data Stays (manner : Manner) (first : Progress) : List (Option Request) → Progress → Type 0 where
  nothing_yet : Stays manner first [] first
  skipped : (before : List (Option Request)) (last : Progress) → Stays manner first before last → Stays manner first (before ++ None ∷ []) last
  more : (before : List (Option Request)) (request : Request) (between : Progress) (end : LineEnd) (passed : Passed) (client : Running Client) (due : ℕ) (stale : Bool)
      → Stays manner first before between → Attended manner request between.client between.due between.stale end passed client due stale
      → Stays manner first (before ++ Some request ∷ [])
      (record { client = client; due = due; stale = stale; ends = between.ends ++ end ∷ []; passed = then_passed between.passed passed })

-- ---- what is told

-- a line each, as of one request
abbrev pub ends_text : List LineEnd → List ℕ
ends_text ends = flat_map (λ (end : LineEnd). outcome_text end.outcome) ends

-- an answer of class 2 to each is success
abbrev pub is_answered_well : AskEnd → Bool
is_answered_well (Told (Answer reply)) = reply.code.0 / 32 == 2
is_answered_well outcome = false

abbrev pub ended_with : Ended → Bool → Ended
ended_with ended well = if well then ended else NotDone

abbrev pub ended_by_ends : List LineEnd → Ended
ended_by_ends ends = if list_all (λ (end : LineEnd). is_answered_well end.outcome) ends then Done else NotDone

-- the words of an outcome
abbrev pub outcome_words : AskEnd → List ℕ
outcome_words (Told result) = learnt_text result
outcome_words Open = codes "open"

-- the message that the outcome is of
abbrev pub about_text : About → List ℕ
about_text message.Post = codes "the token's post"
about_text message.Request = codes "the request"

-- what is known of the request where it isn't answered
abbrev pub known_text : Bool → List ℕ
known_text true = codes "; the request may have been served"
known_text false = codes "; the request wasn't sent"

-- what is told of a request that isn't answered
abbrev pub told_words : Bool → AskEnd → List ℕ
told_words sent outcome = outcome_words outcome ++ known_text sent

abbrev pub fault_text : About → Bool → AskEnd → List ℕ
fault_text about sent outcome = about_text about ++ codes ": " ++ told_words sent outcome

-- of the line of this number
abbrev pub fault_line : ℕ → LineEnd → List ℕ
fault_line number end = codes "line " ++ decimal number ++ codes ": " ++ fault_text end.about end.sent end.outcome

abbrev pub is_answered : AskEnd → Bool
is_answered (Told (Answer reply)) = true
is_answered outcome = false

-- why there are no requests
abbrev pub requests_fault_of : Ended → Option (List ℕ)
requests_fault_of (BadLine number) = Some (codes "--requests: line " ++ decimal number ++ codes ": should be METHOD PATH [HEX] [format=N]")
requests_fault_of TooLong = Some (codes "--requests: more than 16777216 bytes")
requests_fault_of OutOfMemory = Some (codes "out of memory")
requests_fault_of ended = None
