-- Messages that every node sends (RFC 7252 sections 4.2, 4.3 and 5.2), and their datagrams.
use Rattle.std.specs.Prelude.{◌≡◌, ℕ, ◌≤◌, Bool, true, false, if◌then◌else◌, List, [], ◌∷◌, length, Option, Some, None, IfSome}
use Rattle.std.specs.List.{All}
use Rattle.osc_model.specs.declared.bytes.Bytes.{Bytes}
use Rattle.osc_model.specs.declared.node.Draw.{Draw}
use Rattle.osc_model.specs.declared.node.Peer.{Peer}
use Rattle.osc_model.specs.declared.step.Datagram.{Datagram}
use Rattle.osc_coap.specs.declared.kind.Kind.{Kind}
use Rattle.osc_coap.specs.declared.kind.Kind.TheVariants.{Confirmable, NonConfirmable, Acknowledgement, Reset as ResetKind}
use Rattle.osc_coap.specs.{spelling, bare, datagram_limit}
use Rattle.osc_coap.specs.Message.{Message}
use Rattle.osc_message.specs.Endpoint.{EndpointState, own_id, id_taken}
use Rattle.osc_message.specs.declared.handling.Handling.{Handling}
use Rattle.osc_message.specs.declared.handling.Handling.TheVariants.{Dropped, Answered, Counted}

abbrev pub is_confirmable : Kind → Bool
is_confirmable Confirmable = true
is_confirmable kind = false

abbrev pub is_acknowledgement : Kind → Bool
is_acknowledgement Acknowledgement = true
is_acknowledgement kind = false

-- a Reset, which rejects the message of this ID (section 4.2)
abbrev pub reset : ℕ → Message
reset id = bare ResetKind 0 id []

-- an empty acknowledgement of the message of this ID (section 4.2)
abbrev pub empty_acknowledgement : ℕ → Message
empty_acknowledgement id = bare Acknowledgement 0 id []

-- a response that counts is acknowledged, where it is confirmable (section 5.2.2)
abbrev pub acknowledgement : Message → Option Message
acknowledgement message = if is_confirmable message.kind then Some (empty_acknowledgement message.id) else None

-- ---- replies

-- The reply to a confirmable request is in its acknowledgement (section 5.2.1), that to another in a non-confirmable message
-- of the node's own (section 5.2.3).
abbrev pub reply_kind : Kind → Kind
reply_kind kind = if is_confirmable kind then Acknowledgement else NonConfirmable

abbrev pub reply_id : Draw → Option ℕ → Message → ℕ
reply_id draw next_id request = if is_confirmable request.kind then request.id else own_id draw next_id

-- the header and the token of the reply
abbrev pub reply_start : Draw → Option ℕ → Message → ℕ → Message
reply_start draw next_id request code = bare (reply_kind request.kind) code (reply_id draw next_id request) request.token

-- a message of the node's own takes an ID
abbrev pub replied : Draw → Message → EndpointState → EndpointState
replied draw request state = if is_confirmable request.kind then state else id_taken draw state

-- ---- datagrams

-- the message as a datagram for the peer
abbrev pub datagram : Peer → Message → Datagram
datagram peer message = record { to = peer; bytes = spelling message }

-- the message, if there is one
abbrev pub sent_to : Peer → Option Message → List Datagram
sent_to peer None = []
sent_to peer (Some message) = datagram peer message ∷ []

-- A message that can't be processed, or that a node has no use for: a confirmable one is rejected by a Reset, any other is ignored
-- (sections 4.2 and 4.3).
abbrev pub rejection : Peer → Kind → ℕ → List Datagram
rejection from Confirmable id = datagram from (reset id) ∷ []
rejection from kind id = []

-- the bytes that answered a repeated message go out again, where it was answered
abbrev pub again : Peer → Option Bytes → List Datagram
again from None = []
again from (Some bytes) = (record { to = from; bytes = bytes }) ∷ []

-- What is due is sent, all of it, in order. Without memory for it nothing is: it is lost, as on the way, and said to be.
abbrev pub GoesOut : Bool → List Datagram → List Datagram → Type 0
GoesOut false due out = out ≡ due
GoesOut true due out = out ≡ []

-- ---- how long they are

-- a datagram can carry these bytes (section 4.6)
abbrev pub FitsDatagram : Bytes → Type 0
FitsDatagram bytes = length bytes ≤ datagram_limit

-- each of these can be sent
abbrev pub AreSendable : List Datagram → Type 0
AreSendable out = All (λ sent. FitsDatagram sent.bytes) out

-- the bytes that answered a message, if any did, can be sent again
abbrev pub IsSendableReply : Option Bytes → Type 0
IsSendableReply reply = IfSome reply FitsDatagram

-- what a node made of a message is noted with such bytes
abbrev pub IsSendableHandling : Handling → Type 0
IsSendableHandling Dropped = Unit {0}
IsSendableHandling (Answered reply) = IsSendableReply reply
IsSendableHandling (Counted request reply) = IsSendableReply reply
