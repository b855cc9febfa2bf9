-- The requests that are open at the message layer of a proxy belong to exchanges that are open: once one is closed, its request isn't sent any more.
use Rattle.std.specs.Prelude.{◌≡◌, ℕ, Bool, true, ◌&&◌, not, List, filter, slice_index_or}
use Rattle.std.specs.List.{All, list_any}
use Rattle.osc_coap.specs.{is_request_code}
use Rattle.osc_model.specs.declared.bytes.Bytes.{Bytes}
use Rattle.osc_model.specs.declared.node.Moment.{Moment}
use Rattle.osc_message.specs.{Open}
use Rattle.osc_proxy.specs.Exchanges.{Table, entries, is_named, is_overdue}
use Rattle.osc_proxy.specs.declared.exchanges.Exchange.{Exchange}

-- a request, by its code, which is the second byte of a message (RFC 7252 sections 3 and 12.1)
abbrev pub is_request : Bytes → Bool
is_request bytes = is_request_code (slice_index_or bytes 1 0)

-- an open message is the forwarded one of an exchange, by its peer and its message ID (section 4.2)
abbrev pub is_its : Exchange → Open → Bool
is_its exchange message = is_named message.to message.id exchange

-- .. of an exchange that is open
abbrev pub has_exchange : Table → Open → Bool
has_exchange table message = list_any (λ entry. is_its entry.1 message) (entries table)

-- Each open message that is a request has its exchange, which is open. The others are answers to clients.
abbrev pub EachHasItsExchange : Table → List Open → Type 0
EachHasItsExchange table sending = All (λ message. is_request message.bytes ≡ true → has_exchange table message ≡ true) sending

-- ---- the open messages that are left

-- without those of an exchange that ends
abbrev pub without : Exchange → List Open → List Open
without exchange sending = filter (λ message. not (is_its exchange message)) sending

-- an exchange that is over has the message
abbrev pub is_of_over : Moment → List (ℕ × Exchange) → Open → Bool
is_of_over now all message = list_any (λ entry. is_overdue now entry.1 && is_its entry.1 message) all

-- without those of the exchanges that are over
abbrev pub without_over : Moment → Table → List Open → List Open
without_over now table sending = filter (λ message. not (is_of_over now (entries table) message)) sending
