-- What comes due at a proxy (RFC 7252 sections 4.2, 4.8.2 and 5.7.1).
use Rattle.std.specs.Prelude.{◌≡◌, ℕ, Bool, true, false, ◌||◌, List, [], ◌++◌, Some, None}
use Rattle.std.specs.List.{All, Contains, list_any}
use Rattle.osc_model.specs.{code, quiet_or_lost}
use Rattle.osc_model.specs.declared.node.Draw.{Draw}
use Rattle.osc_model.specs.declared.node.Moment.{Moment}
use Rattle.osc_model.specs.declared.step.Datagram.{Datagram}
use Rattle.osc_model.specs.declared.step.Step.{Step}
use Rattle.osc_coap.specs.{HasSpelling}
use Rattle.osc_coap.specs.Message.{Message}
use Rattle.osc_message.specs.{EndpointState, after_tick, own_id, Open, AreSendable, GoesOut, acts as messages_act, tick_gives_up, tick_sends}
use Rattle.osc_message.specs.declared.name.MessageName.{MessageName}
use Rattle.osc_proxy.specs.Ends.{is_its, is_request, without, without_over}
use Rattle.osc_proxy.specs.Exchanges.{Table, entries, first_key, get, is_named, is_overdue}
use Rattle.osc_proxy.specs.State.{State}
use Rattle.osc_proxy.specs.Table.{Closes, back_kept, back_sends, failure}
use Rattle.osc_proxy.specs.declared.exchanges.Exchange.{Exchange}

-- ---- what got no answer ends

-- its message was given up without an acknowledgement, or it was opened too long ago
abbrev pub is_given_up : List MessageName → Exchange → Bool
is_given_up names exchange = list_any (λ name. is_named name.peer name.id exchange) names

abbrev pub is_over : Moment → List MessageName → Exchange → Bool
is_over now given_up exchange = is_given_up given_up exchange || is_overdue now exchange

-- 5.04 (Gateway Timeout)
abbrev pub timeout : EndpointState → Draw → Exchange → Message
timeout endpoint draw exchange = failure (code 5 4) (own_id draw endpoint.next_id) exchange

-- the message layer without the messages of an exchange that ends
abbrev pub without_its : EndpointState → Exchange → EndpointState
without_its endpoint exchange = record endpoint { sending = without exchange endpoint.sending }

-- what is left once an exchange has ended by it: this table of exchanges, and the message layer that sends it back
abbrev pub timed_out : State → Moment → Draw → Exchange → Table → State
timed_out old now draw exchange left = record old {
  exchanges = left;
  endpoint = back_kept (without_its old.endpoint exchange) now draw exchange (timeout old.endpoint draw exchange);
}

abbrev pub timeout_sends : State → Draw → Exchange → List Datagram
timeout_sends old draw exchange = back_sends (without_its old.endpoint exchange) exchange (timeout old.endpoint draw exchange)

-- Each that is over ends by 5.04, which is read again as that very message, the one of the lowest key first.
pub data AllEnd (now : Moment) (draw : Draw) (given_up : List MessageName) : State → List Datagram → State → Type 0 where
  none_is : (state : State) → first_key (is_over now given_up) state.exchanges ≡ None → AllEnd now draw given_up state [] state
  one_is : (old new : State) (left : Table) (key : ℕ) (exchange : Exchange) (later : List Datagram)
      → first_key (is_over now given_up) old.exchanges ≡ Some key
      → Closes key exchange old.exchanges left
      → HasSpelling (timeout old.endpoint draw exchange)
      → AllEnd now draw given_up (timed_out old now draw exchange left) later new
      → AllEnd now draw given_up old (timeout_sends old draw exchange ++ later) new

-- ---- a tick

-- the message layer without the messages of the exchanges that are over
abbrev pub without_over_in : Moment → State → EndpointState
without_over_in now state = record state.endpoint { sending = without_over now state.exchanges state.endpoint.sending }

-- First the messages of exchanges that are over leave, so that their peers are free; then what is due of the others goes out; and then
-- the answers that say that none came, each in at most 1,152 bytes. Without memory for datagrams they are lost, as on the way, which the
-- step says, and all else is done. Nothing is sealed or opened.
pub record Ticks (old : State) (now : Moment) (draw : Draw) (step : Step) (new : State) : Type 0 where
  pub lost_repeats : Bool
  pub repeats : List Datagram
  pub repeated : GoesOut lost_repeats (tick_sends old.endpoint.pace now (without_over now old.exchanges old.endpoint.sending)) repeats
  pub answers : List Datagram
  pub ends : AllEnd now draw (tick_gives_up old.endpoint.pace now (without_over now old.exchanges old.endpoint.sending))
      (record old { endpoint = after_tick now (without_over_in now old) }) answers new
  pub lost_answers : Bool
  pub told_answers : List Datagram
  pub answered : GoesOut lost_answers answers told_answers
  pub told : step.out ≡ repeats ++ told_answers
  pub targets : new.targets ≡ old.targets
  pub noted : step.notes ≡ quiet_or_lost (lost_repeats || lost_answers)
  pub fits : AreSendable step.out

-- ---- what it sends

-- the datagram of an open message that was forwarded, in an exchange that is open and isn't over
pub record IsOfExchange (old : State) (now : Moment) (sent : Datagram) : Type 0 where
  pub message : Open
  pub is_open : Contains old.endpoint.sending message
  pub sent_is : sent ≡ record { to = message.to; bytes = message.bytes }
  pub key : ℕ
  pub exchange : Exchange
  pub is : get old.exchanges key ≡ Some exchange
  pub its : is_its exchange message ≡ true
  pub lasts : is_overdue now exchange ≡ false

-- Each request that goes out is that of such an exchange.
abbrev pub AreOfExchanges : State → Moment → List Datagram → Type 0
AreOfExchanges old now out = All (λ sent. is_request sent.bytes ≡ true → IsOfExchange old now sent) out

-- ---- whether a tick sends, gives up or ends anything

-- the end of an exchange is due
abbrev pub any_overdue : Moment → Table → Bool
any_overdue now table = list_any (λ entry. is_overdue now entry.1) (entries table)

abbrev pub acts : Moment → State → Bool
acts now state = messages_act state.endpoint.pace now state.endpoint.sending || any_overdue now state.exchanges
