-- The state of a node's message layer, and what each call makes of it (RFC 7252 section 4).
use Rattle.std.specs.Prelude.{ℕ, ◌+◌, ◌%◌, List, [], Option, Some, None}
use Rattle.osc_model.specs.{exchange_lifetime, message_id_drawn, non_lifetime}
use Rattle.osc_model.specs.declared.bytes.Bytes.{Bytes}
use Rattle.osc_model.specs.declared.node.Draw.{Draw}
use Rattle.osc_model.specs.declared.node.Moment.{Moment}
use Rattle.osc_model.specs.declared.node.Peer.{Peer}
use Rattle.osc_coap.specs.declared.kind.Kind.{Kind}
use Rattle.osc_coap.specs.declared.kind.Kind.TheVariants.{Confirmable, Acknowledgement, Reset as ResetKind}
use Rattle.osc_dedup.specs.{Entry, alive, with_note}
use Rattle.osc_message.specs.declared.heard.Heard.{Heard}
use Rattle.osc_message.specs.declared.heard.Heard.TheVariants.{Empty, Message}
use Rattle.osc_message.specs.declared.handling.Handling.{Handling}
use Rattle.osc_message.specs.declared.handling.Handling.TheVariants.{Dropped, Answered, Counted}
use Rattle.osc_message.specs.Confirmables.{Open, acknowledged}
use Rattle.osc_message.specs.Pace.{Pace, paced, quickened, slowed}
use Rattle.osc_message.specs.Ticks.{tick_repeats, ticked}

-- what was heard lately, the open confirmable messages, the message ID of the node's next message, once it has made one, and its pace
pub record EndpointState : Type 0 where
  pub seen : List Entry
  pub sending : List Open
  pub next_id : Option ℕ
  pub pace : Pace

-- nothing was heard, nothing is open, and no message was made; so many more than one confirmable message may be outstanding to a peer
abbrev pub fresh_with : ℕ → EndpointState
fresh_with more = record { seen = []; sending = []; next_id = None; pace = paced more }

abbrev pub fresh : EndpointState
fresh = fresh_with 0

-- ---- the node's own message IDs: the first one is drawn, and each later one is the next (section 4.4)

abbrev pub own_id : Draw → Option ℕ → ℕ
own_id draw None = message_id_drawn draw
own_id draw (Some id) = id

abbrev pub id_taken : Draw → EndpointState → EndpointState
id_taken draw state = record state { next_id = Some ((own_id draw state.next_id + 1) % 65536) }

-- ---- what was heard is settled

-- how long a note of one lives, in ms (section 4.8.2)
abbrev pub lifetime : Kind → ℕ
lifetime Confirmable = exchange_lifetime
lifetime kind = non_lifetime

-- one noted, until its lifetime ends; acknowledgements can't be repeated and aren't
abbrev pub noted : Moment → Peer → Kind → ℕ → Option Bytes → List Entry → List Entry
noted now from Acknowledgement id reply seen = seen
noted now from ResetKind id reply seen = seen
noted now from kind id reply seen = with_note now from id (record { until = now.ms + lifetime kind; reply = reply }) seen

-- an acknowledgement, or a Reset, acknowledges the message that it names (section 4.2)
abbrev pub acknowledged_by : Peer → Kind → ℕ → List Open → List Open
acknowledged_by from Acknowledgement id sending = acknowledged from id sending
acknowledged_by from ResetKind id sending = acknowledged from id sending
acknowledged_by from kind id sending = sending

-- what the node made of a message: one that it answered, or that counted, is noted
abbrev pub handled_seen : Moment → Peer → Kind → ℕ → Handling → List Entry → List Entry
handled_seen now from kind id Dropped seen = seen
handled_seen now from kind id (Answered reply) seen = noted now from kind id reply seen
handled_seen now from kind id (Counted request reply) seen = noted now from kind id reply seen

-- a response that counts acknowledges the request that it answers
abbrev pub handled_sending : Peer → Handling → List Open → List Open
handled_sending from (Counted request reply) sending = acknowledged from request sending
handled_sending from handling sending = sending

-- the pace after the same
abbrev pub quickened_by : Peer → Kind → ℕ → List Open → Pace → Pace
quickened_by from Acknowledgement id sending pace = quickened from id sending pace
quickened_by from ResetKind id sending pace = quickened from id sending pace
quickened_by from kind id sending pace = pace

abbrev pub handled_pace : Peer → Handling → List Open → Pace → Pace
handled_pace from (Counted request reply) sending pace = quickened from request sending pace
handled_pace from handling sending pace = pace

abbrev pub settled : EndpointState → Moment → Peer → Heard → Handling → EndpointState
settled state now from (Empty kind id) handling = record state {
  sending = acknowledged from id state.sending;
  pace = quickened from id state.sending state.pace;
}
settled state now from (Message message) handling = record state {
  seen = handled_seen now from message.kind message.id handling state.seen;
  sending = handled_sending from handling (acknowledged_by from message.kind message.id state.sending);
  pace = handled_pace from handling (acknowledged_by from message.kind message.id state.sending) (quickened_by from message.kind message.id state.sending state.pace);
}
settled state now from heard handling = state

-- ---- the messages of a name leave: nothing of them is sent any more

abbrev pub withdrawn : Peer → ℕ → EndpointState → EndpointState
withdrawn to id state = record state { sending = acknowledged to id state.sending }

-- ---- a tick: what is due is done, each peer to which a message is sent again becomes slow, and the dead notes go

abbrev pub after_tick : Moment → EndpointState → EndpointState
after_tick now state = record state {
  seen = alive now state.seen;
  sending = ticked state.pace now state.sending;
  pace = slowed (tick_repeats state.pace now state.sending) state.pace;
}
