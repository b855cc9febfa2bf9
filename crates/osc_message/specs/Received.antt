-- What a datagram is, whatever its bytes (RFC 7252 sections 3, 4.2 and 4.3).
use Rattle.std.specs.Prelude.{ℕ, ◌<◌, ◌≤◌, ◌^◌, ◌⊎◌, List, length}
use Rattle.osc_coap.specs.{datagram_limit, Spells, HasHeader, HasOtherVersion}
use Rattle.osc_coap.specs.Message.{Message as CoapMessage}
use Rattle.osc_message.specs.declared.received.Received.{Received}
use Rattle.osc_message.specs.declared.received.Received.TheVariants.{Nothing, Malformed, Message}

-- Longer than a datagram may be, too short for a header, or of another version: nothing is made out. Else it is a
-- message, or only its header can be read.
abbrev pub Receives : List ℕ → Received → Type 0
Receives bytes Nothing = (datagram_limit < length bytes) ⊎ ((length bytes < 4) ⊎ HasOtherVersion bytes)
Receives bytes (Malformed kind id) = (length bytes ≤ datagram_limit) × HasHeader bytes kind id × ((message : CoapMessage) → ¬ Spells bytes message)
Receives bytes (Message message) = (length bytes ≤ datagram_limit) × Spells bytes message

-- the message ID that is made out has 16 bits
abbrev pub HasShortId : Received → Type 0
HasShortId (Malformed kind id) = id < 2 ^ 16
HasShortId received = Unit {0}
