-- What is kept of a world's events.
use Rattle.std.specs.Prelude.{◌≡◌, ℕ, ◌≤◌, true, false, List, [], ◌∷◌, ◌++◌, filter, length, map, Option, Some, None, slice_get, slice_set}
use Rattle.std.specs.List.{enumerate_from, position_or_len}
use Rattle.osc_model.specs.declared.node.Peer.{Peer}
use Rattle.osc_model.specs.declared.step.Datagram.{Datagram}
use Rattle.osc_run.specs.{Noted}
use Rattle.osc_world.specs.declared.event.What.{What}
use Rattle.osc_world.specs.declared.event.What.TheVariants.{Deliver}
use Rattle.osc_world.specs.declared.log.Record.{Record}
use Rattle.osc_world.specs.declared.log.SentDatagram.{SentDatagram}
use Rattle.osc_world.specs.declared.nodes.StepTaken.{StepTaken}

-- each datagram ever sent; what the steps noted, the newest first; the outcome of each event; and the room that was taken for more
pub record LogState : Type 0 where
  pub sent : List SentDatagram
  pub steps : List Noted
  pub records : List Record
  pub room_for_sent : ℕ
  pub room_for_steps : ℕ
  pub room_for_records : ℕ

-- there is room for one event more, whose step sends this number of datagrams
pub record HasRoom (log : LogState) (datagrams : ℕ) : Type 0 where
  pub sent : datagrams ≤ log.room_for_sent
  pub step : 1 ≤ log.room_for_steps
  pub event : 1 ≤ log.room_for_records

-- ---- which datagrams wait

-- the number of the first that waits; that of all that were sent, where none does
abbrev pub first_waiting : List SentDatagram → ℕ
first_waiting sent = position_or_len (λ datagram. datagram.waits) sent

-- the numbers of those that wait, in order
abbrev pub waiting : List SentDatagram → List ℕ
waiting sent = map (λ numbered. numbered.0) (filter (λ numbered. numbered.1.waits) (enumerate_from 0 sent))

-- ---- what an event adds

-- the datagram of this number waits no more, if it was sent
abbrev pub settled_at : ℕ → Option SentDatagram → List SentDatagram → List SentDatagram
settled_at number None sent = sent
settled_at number (Some datagram) sent = slice_set sent number (record datagram { waits = false })

abbrev pub settled : ℕ → List SentDatagram → List SentDatagram
settled number sent = settled_at number (slice_get sent number) sent

-- a datagram that is delivered waits no more
abbrev pub delivered : What → List SentDatagram → List SentDatagram
delivered (Deliver datagram) sent = settled datagram sent
delivered what sent = sent

abbrev pub sent_from : Peer → Datagram → SentDatagram
sent_from at datagram = record { from = at; to = datagram.to; bytes = datagram.bytes; waits = true }

-- what the step sent, if one was taken
abbrev pub sent_by : Option StepTaken → List SentDatagram
sent_by None = []
sent_by (Some taken) = map (sent_from taken.at) taken.out

abbrev pub steps_with : Option StepTaken → List Noted → List Noted
steps_with None steps = steps
steps_with (Some taken) steps = taken.noted ∷ steps

-- the number of the step
abbrev pub number_of : Option StepTaken → List Noted → Option ℕ
number_of None steps = None
number_of (Some taken) steps = Some (length steps)

abbrev pub recorded : List SentDatagram → List Noted → Option StepTaken → Record
recorded sent steps taken = record { step = number_of taken steps; first = length sent; end = length (sent ++ sent_by taken) }

-- what is kept then
pub record IsKept (old : LogState) (what : What) (taken : Option StepTaken) (new : LogState) : Type 0 where
  pub sent : new.sent ≡ delivered what old.sent ++ sent_by taken
  pub steps : new.steps ≡ steps_with taken old.steps
  pub records : new.records ≡ old.records ++ recorded old.sent old.steps taken ∷ []
