-- What a proxy sends fits a datagram, where the message that it makes does.
use Rattle.std.proofs.Common.{◌≡◌, ℕ, Bool, true, false, List, [], ◌∷◌, ◌++◌, subst, sym, Some, None}
use Rattle.std.specs.Prelude.{if◌then◌else◌}
use Rattle.std.proofs.lemmas.List.Elements.{All-append, All-cons, All-nil}
use Rattle.osc_model.specs.{sends}
use Rattle.osc_model.specs.declared.node.Peer.{Peer}
use Rattle.osc_model.specs.declared.step.Datagram.{Datagram}
use Rattle.osc_model.specs.declared.step.Step.{Step}
use Rattle.osc_coap.specs.{spelling}
use Rattle.osc_coap.specs.Message.{Message}
use Rattle.osc_message.specs.{EndpointState, AreSendable, FitsDatagram, acknowledgement, datagram, empty_acknowledgement, is_confirmable, sent_to}
use Rattle.osc_proxy.specs.Inner.Going.{back_sends_by}
use Rattle.osc_proxy.specs.{goes_now, has_room, sends_own}

none_sendable : AreSendable []
none_sendable = All-nil (λ sent. FitsDatagram sent.bytes)

one_sendable : (sent : Datagram) → FitsDatagram sent.bytes → AreSendable (sent ∷ [])
one_sendable sent short = All-cons (λ sent. FitsDatagram sent.bytes) sent [] short none_sendable

pub sendable_own : (goes : Bool) (to : Peer) (bytes : List ℕ) → FitsDatagram bytes → AreSendable (sends_own goes to bytes)
sendable_own true to bytes short = one_sendable (record { to = to; bytes = bytes }) short
sendable_own false to bytes short = none_sendable

pub sendable_back : (confirmable : Bool) (endpoint : EndpointState) (to : Peer) (bytes : List ℕ) → FitsDatagram bytes
    → AreSendable (back_sends_by confirmable endpoint to bytes)
sendable_back confirmable endpoint to bytes short = by (has_room confirmable to endpoint)
  where
    by : (room : Bool) → AreSendable (if room then sends_own (goes_now confirmable to endpoint) to bytes else [])
    by true = sendable_own (goes_now confirmable to endpoint) to bytes short
    by false = none_sendable

abbrev pub AcknowledgementsFit : Type 0
AcknowledgementsFit = (id : ℕ) → FitsDatagram (spelling (empty_acknowledgement id))

pub sendable_acknowledgement : AcknowledgementsFit → (to : Peer) (message : Message) → AreSendable (sent_to to (acknowledgement message))
sendable_acknowledgement short to message = by (is_confirmable message.kind)
  where
    by : (confirmable : Bool) → AreSendable (sent_to to (if confirmable then Some (empty_acknowledgement message.id) else None))
    by true = one_sendable (datagram to (empty_acknowledgement message.id)) (short message.id)
    by false = none_sendable

-- an acknowledgement, and what goes out after it
pub sendable_both : (front behind : List Datagram) → AreSendable front → AreSendable behind → AreSendable (front ++ behind)
sendable_both front behind a b = All-append (λ sent. FitsDatagram sent.bytes) front behind a b

pub sendable_step : (step : Step) (out : List Datagram) → step ≡ sends out → AreSendable out → AreSendable step.out
sendable_step step out told fits = subst (λ (s : Step). AreSendable s.out) (sym told) fits
