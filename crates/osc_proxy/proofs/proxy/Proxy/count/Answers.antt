use Rattle.std.proofs.Common.{◌≡◌, true, refl, ap, sym, ◌∙◌, subst, Some, bytes_eq, ◌&&◌}
use Rattle.std.specs.Prelude.{option_copied}
use Rattle.std.proofs.lemmas.Bool.{and_parts}
use Rattle.std.proofs.lemmas.Option.{same_Some}
use Rattle.osc_coap.specs.{HasSpelling, spelling}
use Rattle.osc_coap.specs.Message.{Message}
use Rattle.osc_model.specs.{same_peer}
use Rattle.osc_model.specs.Arrival.{Arrival}
use Rattle.osc_proxy.specs.{get, is_in_place, answer_to, next_own}
use Rattle.osc_proxy.specs.Inner.Bounds.{CanCount}
use Rattle.osc_proxy.specs.Inner.Going.{CanClose, IsOwn}
use Rattle.osc_proxy.specs.State.{State}
use Rattle.osc_proxy.specs.declared.exchanges.Exchange.{Exchange}
use Rattle.osc_proxy.proofs.Codes.{answer_is_none}
use Rattle.osc_proxy.proofs.proxy.Proxy.count.Goals as goal

pub close-requires-clause-exchange : goal.close-requires-clause-exchange
close-requires-clause-exchange c =
    let old = c.args.self.now in
    let from = c.came.inside.from in
    let draw = c.came.inside.draw.now in
    let message = c.came.inside.message in
    let it : Arrival Message = record { at = c.came.inside.at; from = from; draw = draw; what = message } in
    let asked : CanCount old.exchanges from message c.args.key =
    subst (λ (a : Arrival Message). CanCount old.exchanges a.from a.what c.args.key) (sym c.came.view_is) c.requires in
    let exchange = c.unwrap-exchange.result.now in
    let view = c.self.view_is in
    let was : get old.exchanges c.args.key ≡ Some exchange =
    ap (λ (s : State). get s.exchanges c.args.key) (sym view) ∙ sym c.get.ensures ∙ ap option_copied c.unwrap-exchange.ensures in
    let same : asked.exchange ≡ exchange = same_Some asked.exchange exchange (sym asked.is ∙ was) in
    let id : c.own_id-id.result ≡ next_own old draw = c.own_id-id.ensures ∙ ap (λ (s : State). next_own s draw) view in
    let answer : c.answer_back-answer.result ≡ answer_to (next_own old draw) exchange message =
    c.answer_back-answer.ensures ∙ ap (λ i. answer_to i exchange message) id in
    let both = and_parts (same_peer asked.exchange.target from) (bytes_eq asked.exchange.token message.token && is_in_place message asked.exchange) asked.answers_it in
    subst (λ (a : Arrival Message). CanClose old a c.args.key exchange.id c.in_ok-own.own) c.came.view_is (record {
      exchange = exchange;
      is = was;
      named = refl;
      target = subst (λ (e : Exchange). same_peer e.target from ≡ true) same both.0;
      response = answer_is_none (next_own old draw) exchange message asked.response;
      answer = subst (λ (m : Message). IsOwn exchange.client exchange.confirmable (spelling m) c.in_ok-own.own) answer c.in_ok-own.ensures.own;
      lawful = subst HasSpelling answer c.in_ok-own.ensures.lawful;
    })
