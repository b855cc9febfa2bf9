use Rattle.std.proofs.Common.{◌≡◌, ℕ, ◌+◌, true, false, nat_eq, ◌&&◌, refl, ap, sym, ◌∙◌, subst, Some, None}
use Rattle.std.specs.Prelude.{OnSome}
use Rattle.std.proofs.lemmas.Bool.{and_parts, eqb-true}
use Rattle.osc_coap.specs.{HasSpelling, spelling}
use Rattle.osc_coap.specs.Message.{Message}
use Rattle.osc_model.specs.Arrival.{Arrival}
use Rattle.osc_model.specs.{code, sends, same_peer}
use Rattle.osc_message.specs.{is_named as names_message, EndpointState, own_id}
use Rattle.osc_proxy.specs.{EachHasItsExchange, is_request, Changes, count, get, back_kept, back_sends, failure, named, next_own, bad_gateway}
use Rattle.osc_proxy.specs.Inner.Going.{IsOwn, back_kept_by}
use Rattle.osc_proxy.specs.State.{State}
use Rattle.osc_proxy.proofs.Codes.{no_request}
use Rattle.osc_proxy.proofs.Goes.{back_kept_is, back_sends_is}
use Rattle.osc_proxy.proofs.Its.{each_at, each_back, each_closed, its_named}
use Rattle.osc_proxy.proofs.proxy.Proxy.end.Goals as goal

pub returns-clause-ended : goal.returns-clause-ended
returns-clause-ended c =
    let inside = c.self.inside in
    let old = c.args.self.now in
    let now = c.args.now in
    let from = c.args.rejected.peer in
    let id = c.args.rejected.id in
    let draw = c.args.draw.now in
    let key = c.args.key in
    let exchange = c.unwrap-exchange.result in
    let own = c.failing-own.result in
    let view = c.self.view_is in
    let there : get inside.exchanges key ≡ Some exchange = cc in
    let it : Arrival ℕ = record { at = now; from = from; draw = draw; what = id } in
    let heard_by : c.settle_empty.new.self ≡ named old it = c.settle_empty.ensures ∙ ap (λ (s : State). named s it) view in
    let answer = bad_gateway old draw exchange in
    let own_is : c.own_id.result ≡ next_own old draw = c.own_id.ensures ∙ ap (λ (e : EndpointState). own_id draw e.next_id) heard_by in
    let message : failure (code 5 2) c.own_id.result exchange ≡ answer = ap (λ i. failure (code 5 2) i exchange) own_is in
    let is : IsOwn exchange.client exchange.confirmable (spelling answer) own =
    subst (λ (m : Message). IsOwn exchange.client exchange.confirmable (spelling m) own) message c.failing-own.ensures.own in
    let fewer : count c.close.new.self + 1 ≡ count inside.exchanges =
    subst (λ r. OnSome r (count c.close.new.self + 1 ≡ count inside.exchanges)) (c.close.ensures.value ∙ there) c.close.ensures.count in
    record {
      exchange = exchange;
      closes = record {
        was = ap (λ (s : State). get s.exchanges key) (sym view) ∙ there;
        closed = subst (λ (s : State). Changes s.exchanges c.close.new.self key None) view c.close.ensures.closed;
        fewer = fewer ∙ ap (λ (s : State). count s.exchanges) view;
        next = subst (λ r. OnSome r (c.close.new.self.next ≡ key)) (c.close.ensures.value ∙ there) c.close.ensures.next;
      };
      lawful = subst HasSpelling message c.failing-own.ensures.lawful;
      told = c.sending.ensures
          ∙ ap sends
          (c.alone.ensures
          ∙ c.send_back-sent.ensures.sent ∙ back_sends_is exchange answer own c.settle_empty.new.self is
          ∙ ap (λ (e : EndpointState). back_sends e exchange answer) heard_by);
      targets = ap (λ (s : State). s.targets) view;
      endpoint = c.send_back-sent.ensures.made ∙ back_kept_is exchange answer own c.settle_empty.new.self now draw is
          ∙ ap (λ (e : EndpointState). back_kept e now draw exchange answer) heard_by;
    }

pub invariant_of-self : goal.invariant_of-self
invariant_of-self c =
    let inside = c.self.inside in
    let now = c.args.now in
    let from = c.args.rejected.peer in
    let id = c.args.rejected.id in
    let draw = c.args.draw.now in
    let key = c.args.key in
    let asked = c.requires in
    let exchange = asked.exchange in
    let own = c.failing-own.result in
    let failed = c.unwrap-exchange.result in
    let here : get inside.exchanges key ≡ Some exchange = ap (λ (s : State). get s.exchanges key) c.self.view_is ∙ asked.is in
    let both = and_parts exchange.confirmable (same_peer exchange.target from && nat_eq exchange.id id) asked.names in
    let name = and_parts (same_peer exchange.target from) (nat_eq exchange.id id) both.1 in
    let left : EachHasItsExchange c.close.new.self c.settle_empty.new.self.sending =
    subst (λ (e : EndpointState). EachHasItsExchange c.close.new.self e.sending) (sym c.settle_empty.ensures)
    (each_closed inside.exchanges c.close.new.self key exchange (names_message from id) inside.endpoint.sending here c.close.ensures.closed
    (λ m. its_named from id exchange m name.0 (sym (eqb-true exchange.id id name.1))) c.self.invariant) in
    let other : own.confirmable ≡ true → is_request own.kept ≡ false = λ confirmable.
    ap is_request (c.failing-own.ensures.own.kept (sym c.failing-own.ensures.own.kind ∙ confirmable))
    ∙ no_request (failure (code 5 2) c.own_id.result failed) refl in
    each_at c.close.new.self c.close.new.self c.send_back-sent.new.endpoint (back_kept_by own.confirmable c.settle_empty.new.self now draw own.to own.kept)
    refl c.send_back-sent.ensures.made
    (each_back c.close.new.self own.confirmable c.settle_empty.new.self now draw own.to own.kept other left)
