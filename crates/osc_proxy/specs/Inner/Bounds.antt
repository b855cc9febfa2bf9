-- What a case tells of what it names, for the step that answers it.
use Rattle.std.specs.Prelude.{◌≡◌, ◌<◌, ◌≤◌, ℕ, Bool, true, false, length, Some}
use Rattle.osc_model.specs.declared.node.Peer.{Peer}
use Rattle.osc_coap.specs.{is_request_code, datagram_limit, spelling}
use Rattle.osc_coap.specs.Message.{Message as CoapMessage}
use Rattle.osc_coap.specs.declared.kind.Kind.{Kind}
use Rattle.osc_coap.specs.declared.kind.Kind.TheVariants.{Acknowledgement, Reset as ResetKind}
use Rattle.osc_message.specs.declared.heard.Heard.{Heard}
use Rattle.osc_message.specs.declared.heard.Heard.TheVariants.{Message}
use Rattle.osc_proxy.specs.Exchanges.{Table, answers, get, is_named}
use Rattle.osc_proxy.specs.declared.case.ForwardCase.{ForwardCase}
use Rattle.osc_proxy.specs.declared.case.ForwardCase.TheVariants.{Refused, Forwarded, Counted, Unused}
use Rattle.osc_proxy.specs.declared.exchanges.Exchange.{Exchange}

-- a message that was heard is as long as a datagram may be at most
abbrev pub HeardFits : Heard → Type 0
HeardFits (Message message) = length (spelling message) ≤ datagram_limit
HeardFits heard = Unit {0}

-- acknowledgements and Resets name a message by their message ID
abbrev pub names_one : Kind → Bool
names_one Acknowledgement = true
names_one ResetKind = true
names_one kind = false

-- they carry no request
abbrev pub IsApart : Heard → Type 0
IsApart (Message message) = is_request_code message.code ≡ true → names_one message.kind ≡ false
IsApart heard = Unit {0}

-- there is an exchange of this key
pub record IsOpen (exchanges : Table) (key : ℕ) : Type 0 where
  pub exchange : Exchange
  pub is : get exchanges key ≡ Some exchange

-- .. and its forwarded message is the one of this peer and this message ID
pub record IsNamed (exchanges : Table) (from : Peer) (id key : ℕ) : Type 0 where
  pub exchange : Exchange
  pub is : get exchanges key ≡ Some exchange
  pub names : is_named from id exchange ≡ true

-- the response answers the exchange of this key, and is a message with a code that fits a datagram
pub record CanCount (exchanges : Table) (from : Peer) (message : CoapMessage) (key : ℕ) : Type 0 where
  pub exchange : Exchange
  pub is : get exchanges key ≡ Some exchange
  pub answers_it : answers from message exchange ≡ true
  pub coded : 0 < message.code
  pub response : is_request_code message.code ≡ false
  pub short : length (spelling message) ≤ datagram_limit

abbrev pub AsksFor : Table → Peer → CoapMessage → ForwardCase → Type 0
AsksFor exchanges from message (Refused why) = (0 < why.0) × (names_one message.kind ≡ false)
AsksFor exchanges from message (Forwarded to) = (0 < message.code) × (names_one message.kind ≡ false)
AsksFor exchanges from message (Counted key) = CanCount exchanges from message key
AsksFor exchanges from message Unused = Unit {0}
