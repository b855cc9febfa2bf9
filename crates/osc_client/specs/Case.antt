-- Which case a new message is to a client: the first test that holds, read from the top.
use Rattle.std.specs.Prelude.{ℕ, Bool, true, false, ◌&&◌, nat_eq, bytes_eq, if◌then◌else◌, Option, Some, None, is_some}
use Rattle.osc_model.specs.declared.node.Peer.{Peer}
use Rattle.osc_coap.specs.{is_request_code}
use Rattle.osc_coap.specs.Message.{Message as CoapMessage}
use Rattle.osc_coap.specs.declared.kind.Kind.{Kind}
use Rattle.osc_coap.specs.declared.kind.Kind.TheVariants.{Reset as ResetKind}
use Rattle.osc_options.specs.{unrecognised_critical}
use Rattle.osc_model.specs.{same_peer}
use Rattle.osc_message.specs.{is_acknowledgement, is_confirmable}
use Rattle.osc_client.specs.declared.case.ResponseCase.{ResponseCase}
use Rattle.osc_client.specs.declared.case.ResponseCase.TheVariants.{Refused, Unused, Counted}
use Rattle.osc_client.specs.declared.waiting.Waiting.{Waiting}

abbrev pub is_reset : Kind → Bool
is_reset ResetKind = true
is_reset kind = false

-- A response counts for what waits by its sender and its token; in an acknowledgement by the message ID as well (RFC 7252 section
-- 5.3.2).
abbrev pub is_for : Peer → Peer → CoapMessage → Waiting → Bool
is_for next_hop from message waiting =
    (same_peer next_hop from && bytes_eq waiting.token message.token)
    && (if is_acknowledgement message.kind then nat_eq waiting.id message.id else true)

abbrev pub counts : Peer → Peer → CoapMessage → Option Waiting → Bool
counts next_hop from message None = false
counts next_hop from message (Some waiting) = is_for next_hop from message waiting

-- A critical option that isn't recognised (section 5.4.1): a confirmable request is answered. Requests aren't served. A response
-- counts for what waits, or for nothing.
abbrev pub case_of : Peer → Peer → Option Waiting → CoapMessage → ResponseCase
case_of next_hop from waiting message =
    if is_some (unrecognised_critical 0 message.options) then
    (if is_request_code message.code && is_confirmable message.kind then Refused else Unused)
    else if is_request_code message.code then Unused
    else if counts next_hop from message waiting then Counted
    else Unused

-- a Reset ends what waits where it names its message, acknowledged before or not (section 4.2)
abbrev pub is_named : Peer → Peer → ℕ → Option Waiting → Bool
is_named next_hop from id None = false
is_named next_hop from id (Some waiting) = same_peer next_hop from && nat_eq waiting.id id

abbrev pub is_ended : Peer → Peer → Kind → ℕ → Option Waiting → Bool
is_ended next_hop from kind id waiting = is_reset kind && is_named next_hop from id waiting
