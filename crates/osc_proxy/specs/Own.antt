-- Messages that a proxy makes: requests that it forwards, and answers to its clients.
use Rattle.std.specs.Prelude.{ℕ, Bool, true, false, if◌then◌else◌, List, [], ◌∷◌}
use Rattle.osc_model.specs.declared.node.Draw.{Draw}
use Rattle.osc_model.specs.declared.node.Moment.{Moment}
use Rattle.osc_model.specs.declared.node.Peer.{Peer}
use Rattle.osc_model.specs.declared.step.Datagram.{Datagram}
use Rattle.osc_coap.specs.declared.kind.Kind.{Kind}
use Rattle.osc_coap.specs.declared.kind.Kind.TheVariants.{Confirmable, NonConfirmable}
use Rattle.osc_message.specs.{goes_at_once, takes, with_open, EndpointState, own_id, id_taken, timeout_of}

-- a request and its answer travel alike on both sides: confirmable, or not
abbrev pub kind_of : Bool → Kind
kind_of true = Confirmable
kind_of false = NonConfirmable

-- whether there is room for one more to this peer: only confirmable messages are kept (RFC 7252 sections 4.2 and 4.7)
abbrev pub has_room : Bool → Peer → EndpointState → Bool
has_room confirmable to endpoint = if confirmable then takes to endpoint.sending else true

-- whether it goes out at once: of confirmable messages only so many may be outstanding to a peer (section 4.7)
abbrev pub goes_now : Bool → Peer → EndpointState → Bool
goes_now confirmable to endpoint = if confirmable then goes_at_once endpoint.pace to endpoint.sending else true

-- what goes out of it now
abbrev pub sends_own : Bool → Peer → List ℕ → List Datagram
sends_own true to bytes = (record { to = to; bytes = bytes }) ∷ []
sends_own false to bytes = []

-- the message layer once it was made: a message ID is taken, and a confirmable message is open
abbrev pub with_own : Bool → EndpointState → Moment → Draw → Peer → List ℕ → EndpointState
with_own true endpoint now draw to bytes =
    record (id_taken draw endpoint) { sending = with_open endpoint.pace now to (own_id draw endpoint.next_id) (timeout_of draw) bytes endpoint.sending }
with_own false endpoint now draw to bytes = id_taken draw endpoint
