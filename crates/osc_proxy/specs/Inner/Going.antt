-- Messages that a proxy makes, by their bytes: the way from the code to the definitions.
use Rattle.std.specs.Prelude.{◌≡◌, ℕ, ◌<◌, Bool, true, false, List, [], if◌then◌else◌, Option, None, Some, option_map}
use Rattle.osc_model.specs.Arrival.{Arrival}
use Rattle.osc_model.specs.declared.node.Draw.{Draw}
use Rattle.osc_model.specs.declared.node.Moment.{Moment}
use Rattle.osc_model.specs.declared.node.Peer.{Peer}
use Rattle.osc_model.specs.declared.step.Datagram.{Datagram}
use Rattle.osc_coap.specs.{is_request_code, HasSpelling, spelling}
use Rattle.osc_coap.specs.Message.{Message}
use Rattle.osc_model.specs.{same_peer}
use Rattle.osc_message.specs.{EndpointState, FitsDatagram, IsSendableReply, OutboxState, acknowledgement, sent_to}
use Rattle.osc_proxy.specs.Exchanges.{get}
use Rattle.osc_proxy.specs.Own.{goes_now, has_room, sends_own, with_own}
use Rattle.osc_proxy.specs.State.{State}
use Rattle.osc_proxy.specs.Table.{answer_for}
use Rattle.osc_proxy.specs.declared.exchanges.Exchange.{Exchange}
use Rattle.osc_proxy.specs.declared.sending.Acknowledged.{Acknowledged}
use Rattle.osc_proxy.specs.declared.sending.Own.{Own}

-- what is sent already
abbrev pub sent_in : Option OutboxState → List Datagram
sent_in None = []
sent_in (Some out) = out.sent

-- a place for one datagram more; where nothing is sent, it needs none
abbrev pub HasPlace : Option OutboxState → Type 0
HasPlace None = Unit {0}
HasPlace (Some out) = 0 < out.places

-- the acknowledgement of a message of this peer, where it is confirmable, with a place for one datagram more
pub record Acknowledges (from : Peer) (message : Message) (made : Acknowledged) : Type 0 where
  pub sent : sent_in made.out ≡ sent_to from (acknowledgement message)
  pub place : HasPlace made.out
  pub noted : made.reply ≡ option_map spelling (acknowledgement message)
  pub short : IsSendableReply made.reply

-- these bytes for this peer; a copy of them is kept where the message is confirmable
pub record IsOwn (to : Peer) (confirmable : Bool) (bytes : List ℕ) (own : Own) : Type 0 where
  pub to_is : own.to ≡ to
  pub kind : own.confirmable ≡ confirmable
  pub sent : own.sent ≡ bytes
  pub kept : confirmable ≡ true → own.kept ≡ bytes
  pub short : FitsDatagram bytes
  pub kept_short : FitsDatagram own.kept

-- the exchange of this key can be closed by this response: its forwarded message has this ID, and this is the answer that
-- goes back, which is no request
pub record CanClose (old : State) (came : Arrival Message) (key id : ℕ) (own : Own) : Type 0 where
  pub exchange : Exchange
  pub is : get old.exchanges key ≡ Some exchange
  pub named : id ≡ exchange.id
  pub target : same_peer exchange.target came.from ≡ true
  pub response : is_request_code (answer_for old came exchange).code ≡ false
  pub answer : IsOwn exchange.client exchange.confirmable (spelling (answer_for old came exchange)) own
  pub lawful : HasSpelling (answer_for old came exchange)

abbrev pub back_sends_by : Bool → EndpointState → Peer → List ℕ → List Datagram
back_sends_by confirmable endpoint to bytes =
    if has_room confirmable to endpoint then sends_own (goes_now confirmable to endpoint) to bytes else []

abbrev pub back_kept_by : Bool → EndpointState → Moment → Draw → Peer → List ℕ → EndpointState
back_kept_by confirmable endpoint now draw to bytes =
    if has_room confirmable to endpoint then with_own confirmable endpoint now draw to bytes else endpoint
