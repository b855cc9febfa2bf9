-- What a datagram is to the message layer, beside what was heard before (RFC 7252 sections 4.2, 4.3 and 4.5): it answers some by itself,
-- and leaves the others to the node.
use Rattle.std.specs.Prelude.{◌≡◌, ◌≢◌, ℕ, ◌/◌, Bool, ◌||◌, ◌==◌, nat_le, if◌then◌else◌, List, [], ◌∷◌, Option, Some, None, option_and_then}
use Rattle.osc_model.specs.declared.bytes.Bytes.{Bytes}
use Rattle.osc_model.specs.declared.node.Moment.{Moment}
use Rattle.osc_model.specs.declared.node.Peer.{Peer}
use Rattle.osc_model.specs.declared.step.Datagram.{Datagram}
use Rattle.osc_coap.specs.declared.kind.Kind.{Kind}
use Rattle.osc_coap.specs.declared.kind.Kind.TheVariants.{Confirmable, Acknowledgement, Reset as ResetKind}
use Rattle.osc_coap.specs.{is_request_code, HasSpelling}
use Rattle.osc_coap.specs.Message.{Message as CoapMessage}
use Rattle.osc_dedup.specs.declared.table.Remembered.{Remembered}
use Rattle.osc_dedup.specs.{Entry, looked}
use Rattle.osc_message.specs.Sending.{AreSendable, again, datagram, rejection, reset}
use Rattle.osc_message.specs.declared.received.Received.{Received}
use Rattle.osc_message.specs.declared.received.Received.TheVariants as received
use Rattle.osc_message.specs.declared.heard.Heard.{Heard}
use Rattle.osc_message.specs.declared.heard.Heard.TheVariants.{Alone, Empty, Message}

-- classes 1, 6 and 7 are reserved (section 3)
abbrev pub is_reserved : ℕ → Bool
is_reserved code = (code / 32 == 1) || nat_le 192 code

-- nothing answers it
abbrev pub ignored : Heard
ignored = Alone []

-- it can't be processed
abbrev pub rejected : Peer → Kind → ℕ → Heard
rejected from kind id = Alone (rejection from kind id)

-- an empty message (section 4.1): acknowledgements and Resets name a confirmable message by its message ID
abbrev pub empty_heard : Peer → Kind → ℕ → Heard
empty_heard from Acknowledgement id = Empty Acknowledgement id
empty_heard from ResetKind id = Empty ResetKind id
empty_heard from kind id = rejected from kind id

-- one that was heard before is a repeat (section 4.5): a confirmable one is answered by the same bytes again, another is
-- ignored
abbrev pub repeated : Peer → Kind → Option Bytes → Heard
repeated from Confirmable reply = Alone (again from reply)
repeated from kind reply = ignored

abbrev pub new_or_repeated : Peer → CoapMessage → Option Remembered → Heard
new_or_repeated from message None = Message message
new_or_repeated from message (Some noted) = repeated from message.kind noted.reply

-- A request or response: a confirmable or non-confirmable one is looked up; a response in an acknowledgement is none that
-- could be repeated; requests in acknowledgements, and Resets that aren't empty, are ignored.
abbrev pub carried : List Entry → Moment → Peer → Kind → CoapMessage → Heard
carried seen now from Acknowledgement message = if is_request_code message.code then ignored else Message message
carried seen now from ResetKind message = ignored
carried seen now from kind message = new_or_repeated from message (looked now from message.id seen)

abbrev pub message_heard : List Entry → Moment → Peer → CoapMessage → Heard
message_heard seen now from message =
    if message.code == 0 then empty_heard from message.kind message.id
    else if is_reserved message.code then rejected from message.kind message.id
    else carried seen now from message.kind message

abbrev pub heard : List Entry → Moment → Peer → Received → Heard
heard seen now from received.Nothing = ignored
heard seen now from (received.Malformed kind id) = rejected from kind id
heard seen now from (received.Message message) = message_heard seen now from message

-- ---- what the message layer answers by itself

-- the bytes that answered a message that was noted, while its entry lives
abbrev pub noted_reply : List Entry → Moment → Peer → ℕ → Option Bytes
noted_reply seen now from id = option_and_then (λ noted. noted.reply) (looked now from id seen)

-- it goes out to the sender: nothing, a Reset, or what answered the same message before
pub data IsAlone (seen : List Entry) (now : Moment) (from : Peer) (out : List Datagram) : Type 0 where
  ignores : out ≡ [] → IsAlone seen now from out
  rejects : (id : ℕ) → HasSpelling (reset id) → out ≡ datagram from (reset id) ∷ [] → IsAlone seen now from out
  repeats : (id : ℕ) → out ≡ again from (noted_reply seen now from id) → IsAlone seen now from out

-- the same of what is heard, where the message layer answers it
abbrev pub AnswersAlone : List Entry → Moment → Peer → Heard → Type 0
AnswersAlone seen now from (Alone out) = IsAlone seen now from out
AnswersAlone seen now from heard = Unit {0}

-- something goes out so
abbrev pub SendsAlone : Heard → Type 0
SendsAlone (Alone out) = out ≢ []
SendsAlone heard = ⊥

-- what goes out so can be sent
abbrev pub IsSendableHeard : Heard → Type 0
IsSendableHeard (Alone out) = AreSendable out
IsSendableHeard heard = Unit {0}
