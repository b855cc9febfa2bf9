use Rattle.std.proofs.Common.{◌≡◌, ◌+◌, ap, ◌∙◌, subst, Some}
use Rattle.std.specs.Prelude.{OnSome}
use Rattle.osc_coap.specs.{HasSpelling, spelling}
use Rattle.osc_coap.specs.Message.{Message}
use Rattle.osc_model.specs.{code}
use Rattle.osc_message.specs.{EndpointState, own_id}
use Rattle.osc_proxy.specs.{count, get, back_kept, back_sends, failure, timeout}
use Rattle.osc_proxy.specs.Inner.Going.{IsOwn}
use Rattle.osc_proxy.proofs.Goes.{back_kept_is, back_sends_is}
use Rattle.osc_proxy.proofs.ticking.end.Goals as goal

pub returns-clause-ended : goal.returns-clause-ended
returns-clause-ended c =
    let now = c.args.now in
    let draw = c.args.draw.now in
    let key = c.args.key in
    let exchange = c.unwrap-exchange.result in
    let own = c.failing-own.result in
    let left = c.withdraw.new.endpoint in
    let was : get c.args.exchanges.now key ≡ Some exchange = cc in
    let answer = timeout c.args.endpoint.now draw exchange in
    let id : c.own_id.result ≡ own_id draw c.args.endpoint.now.next_id =
    c.own_id.ensures ∙ ap (λ (e : EndpointState). own_id draw e.next_id) c.withdraw.ensures in
    let message : failure (code 5 4) c.own_id.result exchange ≡ answer = ap (λ i. failure (code 5 4) i exchange) id in
    let is : IsOwn exchange.client exchange.confirmable (spelling answer) own =
    subst (λ (m : Message). IsOwn exchange.client exchange.confirmable (spelling m) own) message c.failing-own.ensures.own in (
      exchange,
      record {
        was = was;
        closed = c.close.ensures.closed;
        fewer = subst (λ r. OnSome r (count c.close.new.self + 1 ≡ count c.args.exchanges.now)) (c.close.ensures.value ∙ was) c.close.ensures.count;
        next = subst (λ r. OnSome r (c.close.new.self.next ≡ key)) (c.close.ensures.value ∙ was) c.close.ensures.next;
      },
      c.send_back.ensures.sent ∙ back_sends_is exchange answer own left is ∙ ap (λ (e : EndpointState). back_sends e exchange answer) c.withdraw.ensures,
      c.send_back.ensures.made ∙ back_kept_is exchange answer own left now draw is ∙ ap (λ (e : EndpointState). back_kept e now draw exchange answer) c.withdraw.ensures,
      is.short,
      subst HasSpelling message c.failing-own.ensures.lawful,
    )
