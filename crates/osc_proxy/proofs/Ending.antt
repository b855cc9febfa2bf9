-- Exchanges end one after the other.
use Rattle.std.proofs.Common.{◌≤◌, ℕ, Bool, true, false, List, [], length, arith}
use Rattle.std.proofs.lemmas.List.{length-append}
use Rattle.std.specs.Prelude.{if◌then◌else◌}
use Rattle.osc_model.specs.declared.node.Peer.{Peer}
use Rattle.osc_coap.specs.{spelling}
use Rattle.osc_coap.specs.Message.{Message}
use Rattle.osc_model.specs.declared.node.Draw.{Draw}
use Rattle.osc_model.specs.declared.node.Moment.{Moment}
use Rattle.osc_model.specs.declared.step.Datagram.{Datagram}
use Rattle.osc_message.specs.{EndpointState}
use Rattle.osc_message.specs.declared.name.MessageName.{MessageName}
use Rattle.osc_proxy.specs.{count, goes_now, sends_own, back_sends, has_way_back, AllEnd, timed_out, timeout, without_its}
use Rattle.osc_proxy.specs.State.{State}
use Rattle.osc_proxy.specs.Ticks.AllEnd.{none_is, one_is}
use Rattle.osc_proxy.specs.declared.exchanges.Exchange.{Exchange}

sends_few : (room goes : Bool) (to : Peer) (bytes : List ℕ) → length (if room then sends_own goes to bytes else []) ≤ 1
sends_few true true to bytes = omega arith
sends_few true false to bytes = omega arith
sends_few false goes to bytes = omega arith

-- what goes back is one datagram at most
pub one_back : (endpoint : EndpointState) (exchange : Exchange) (message : Message) → length (back_sends endpoint exchange message) ≤ 1
one_back endpoint exchange message = sends_few (has_way_back endpoint exchange) (goes_now exchange.confirmable exchange.client endpoint) exchange.client (spelling message)

-- each ending sends one datagram at most
pub few_end : (now : Moment) (draw : Draw) (names : List MessageName) (old new : State) (out : List Datagram) → AllEnd now draw names old out new
    → length out ≤ count old.exchanges
few_end now draw names old new out (none_is state none) = omega arith
few_end now draw names old new out (one_is was last left key exchange later found closes lawful rest) =
    let few = few_end now draw names (timed_out was now draw exchange left) last later rest in
    let answer = timeout was.endpoint draw exchange in
    let one = one_back (without_its was.endpoint exchange) exchange answer in
    omega (arith, few, one, closes.fewer, length-append (back_sends (without_its was.endpoint exchange) exchange answer) later)
