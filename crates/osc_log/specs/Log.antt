-- What a log is told, one event after another, and what it writes of that.
use Rattle.std.specs.Prelude.{◌≡◌, ℕ, List, [], ◌∷◌, ◌++◌, Option, Some, None}
use Rattle.osc_model.specs.declared.node.Moment.{Moment}
use Rattle.osc_log.specs.Counters.{after_turn, no_counters, with_lost}
use Rattle.osc_log.specs.Faults.{behind_text, lost_text, untold_text}
use Rattle.osc_log.specs.Limits.{none_told}
use Rattle.osc_log.specs.Output.{Admits, Puts, Written, none_dropped}
use Rattle.osc_log.specs.Time.{IsTime}
use Rattle.osc_log.specs.Sent.{seen_after, turn_text}
use Rattle.osc_log.specs.Turns.{Turn}
use Rattle.osc_log.specs.declared.counters.Counters.{Counters}
use Rattle.osc_log.specs.declared.form.Form.{Form}
use Rattle.osc_log.specs.declared.form.Form.TheVariants.{Text}
use Rattle.osc_log.specs.declared.held.Held.{Held}
use Rattle.osc_log.specs.declared.seen.Seen.{Seen}

-- ---- what it is told

-- a turn, and what the node holds after it; or that there was no memory for the step of what came at this moment; or that the wall clock was so many
-- seconds behind it
pub data Event : Type 0 where
  turned : Turn → Held → Event
  lost : Moment → Event
  behind : Moment → ℕ → Event

-- ---- what it says

-- nothing was seen yet, by a log that tells its counters after so many seconds
abbrev pub nothing_seen : ℕ → Seen
nothing_seen every = record { limits = none_told 0; counters = no_counters every }

-- what is said of an event by a log that has seen this much, and what it has seen then. There may be no memory for the lines of a turn.
pub data SaysOf (form : Form) (seen : Seen) : Event → List ℕ → Seen → Type 0 where
  told : (turn : Turn) (held : Held) (time : List ℕ) → IsTime turn.now time
      → SaysOf form seen (turned turn held) (turn_text form time seen turn held) (seen_after turn seen)
  untold : (turn : Turn) (held : Held) (time : List ℕ) → IsTime turn.now time
      → SaysOf form seen (turned turn held) (untold_text form time) (record seen { counters = after_turn turn seen.counters })
  missed : (now : Moment) (time : List ℕ) → IsTime now time
      → SaysOf form seen (lost now) (lost_text form time) (record seen { counters = with_lost seen.counters })
  lagging : (now : Moment) (seconds : ℕ) (time : List ℕ) → IsTime now time → SaysOf form seen (behind now seconds) (behind_text form time seconds) seen

-- of some events, one after another
pub data Says (form : Form) : Seen → List Event → List ℕ → Seen → Type 0 where
  nothing : (seen : Seen) → Says form seen [] [] seen
  more : (first between last : Seen) (event : Event) (events : List Event) (text next : List ℕ) → SaysOf form first event text between → Says form between events next last
      → Says form first (event ∷ events) (text ++ next) last

-- what is counted of events
abbrev pub count_of : Event → Counters → Counters
count_of (turned turn held) counters = after_turn turn counters
count_of (lost now) counters = with_lost counters
count_of (behind now seconds) counters = counters

abbrev pub counted_by : List Event → Counters → Counters
counted_by [] counters = counters
counted_by (event ∷ events) counters = counted_by events (count_of event counters)

-- ---- where it is told

-- a log: how its lines are written, what it has seen, where it tells of turns, and what it wrote and dropped
pub record Told : Type 0 where
  pub form : Form
  pub seen : Option Seen
  pub output : Written

-- one that tells nothing
abbrev pub unseen : Told
unseen = record { form = Text; seen = None; output = none_dropped None }

abbrev pub moment_of : Event → Moment
moment_of (turned turn held) = turn.now
moment_of (lost now) = now
moment_of (behind now seconds) = now

-- Of an event a log that has seen this much first tells how many lines were dropped, where that is due. Then all that it says of the event is put after
-- it, or a beginning.
pub record SaysIn (seen : Seen) (old new : Told) (event : Event) : Type 0 where
  pub form : new.form ≡ old.form
  pub between : Written
  pub admits : Admits old.form (moment_of event) old.output between
  pub text : List ℕ
  pub last : Seen
  pub is_last : new.seen ≡ Some last
  pub says : SaysOf old.form seen event text last
  pub puts : Puts between new.output text

-- a log that doesn't tell of turns does nothing
abbrev pub TellsIf : Option Seen → Told → Told → Event → Type 0
TellsIf None old new event = new ≡ old
TellsIf (Some seen) old new event = SaysIn seen old new event

-- It was told of these events, one after another, and told of each.
pub data Tells : Told → Told → List Event → Type 0 where
  no_event : (log : Told) → Tells log log []
  one_event : (first between last : Told) (event : Event) (events : List Event) → TellsIf first.seen first between event → Tells between last events
      → Tells first last (event ∷ events)

-- This, which is of no event, or a beginning of it, was put after what was there.
pub record Writes (old new : Told) (text : List ℕ) : Type 0 where
  pub form : new.form ≡ old.form
  pub seen : new.seen ≡ old.seen
  pub puts : Puts old.output new.output text

-- ---- how a turn is told

-- its lines, where this much was seen
abbrev pub AreLines : Form → Option Seen → Turn → Held → List ℕ → Type 0
AreLines form None turn held lines = Unit {0}
AreLines form (Some seen) turn held lines = (time : List ℕ) × IsTime turn.now time × (lines ≡ turn_text form time seen turn held)

-- what is told by its lines: these, or, where there are none, that there was no memory for them
abbrev pub IsTelling : Form → Turn → Option (List ℕ) → List ℕ → Type 0
IsTelling form turn (Some lines) text = text ≡ lines
IsTelling form turn None text = (time : List ℕ) × IsTime turn.now time × (text ≡ untold_text form time)

-- what was seen then: without its lines none of them, but the turn is counted
abbrev pub seen_by : Turn → Option (List ℕ) → Seen → Seen
seen_by turn (Some lines) seen = seen_after turn seen
seen_by turn None seen = record seen { counters = after_turn turn seen.counters }

pub record PutsLines (seen : Seen) (old new : Told) (turn : Turn) (lines : Option (List ℕ)) : Type 0 where
  pub form : new.form ≡ old.form
  pub seen_now : new.seen ≡ Some (seen_by turn lines seen)
  pub between : Written
  pub admits : Admits old.form turn.now old.output between
  pub text : List ℕ
  pub is_text : IsTelling old.form turn lines text
  pub puts : Puts between new.output text

-- the turn is told by its lines, by a log that tells of turns
abbrev pub TellsBy : Option Seen → Told → Told → Turn → Option (List ℕ) → Type 0
TellsBy None old new turn lines = new ≡ old
TellsBy (Some seen) old new turn lines = PutsLines seen old new turn lines
