use Rattle.std.proofs.Common.{◌≡◌, ◌++◌, true, false, refl, ap, sym, ◌∙◌, subst, Some, None}
use Rattle.std.specs.Option.{option_to_list}
use Rattle.osc_message.specs.{is_named as names_message, EndpointState, acknowledged_by, settled, AreSendable, FitsDatagram, acknowledgement, sent_to}
use Rattle.osc_message.specs.declared.handling.Handling.TheVariants as handling
use Rattle.osc_message.specs.declared.heard.Heard.TheVariants as heard
use Rattle.osc_coap.specs.Message.{Message}
use Rattle.osc_model.specs.Arrival.{Arrival}
use Rattle.osc_model.specs.{sends}
use Rattle.osc_proxy.specs.{EachHasItsExchange, is_request, Changes, count, get, Counts, answer_for, back_kept, back_sends, counted}
use Rattle.osc_proxy.specs.Inner.Going.{Acknowledges, CanClose, back_kept_by, back_sends_by, sent_in}
use Rattle.osc_proxy.specs.State.{State}
use Rattle.osc_proxy.proofs.Codes.{no_request}
use Rattle.osc_proxy.proofs.Its.{each_at, each_back, each_closed, each_fewer_by, its_named}
use Rattle.osc_proxy.proofs.Fits.{sendable_acknowledgement, sendable_back, sendable_both, sendable_step}
use Rattle.osc_proxy.proofs.Goes.{back_kept_is, back_sends_is}
use Rattle.osc_proxy.proofs.proxy.Proxy.close.Goals as goal

pub returns-clause-counted : goal.returns-clause-counted
returns-clause-counted c =
    let inside = c.self.inside in
    let old = c.args.self.now in
    let now = c.came.inside.at in
    let from = c.came.inside.from in
    let draw = c.came.inside.draw.now in
    let message = c.came.inside.message in
    let it : Arrival Message = record { at = now; from = from; draw = draw; what = message } in
    let key = c.args.key in
    let own = c.args.own in
    let asked : CanClose old it key c.args.named own = subst (λ (a : Arrival Message). CanClose old a key c.args.named own) (sym c.came.view_is) c.requires.exchange in
    let acknowledged : Acknowledges from message c.args.acknowledged =
    subst (λ (a : Arrival Message). Acknowledges a.from a.what c.args.acknowledged) (sym c.came.view_is) c.requires.acknowledged in
    let exchange = asked.exchange in
    let answer = answer_for old it exchange in
    let view = c.self.view_is in
    let heard_by : c.settle.new.self ≡ counted old it exchange =
    c.settle.ensures
    ∙ ap (λ i. settled inside.endpoint now from (heard.Message message) (handling.Counted i c.args.acknowledged.reply)) asked.named
    ∙ ap (λ r. settled inside.endpoint now from (heard.Message message) (handling.Counted exchange.id r)) acknowledged.noted
    ∙ ap (λ (s : State). counted s it exchange) view in
    let here : get inside.exchanges key ≡ Some exchange = ap (λ (s : State). get s.exchanges key) view ∙ asked.is in
    let new : State = record { targets = inside.targets; exchanges = c.close_answered.new.self; endpoint = c.send_back-sent.new.endpoint } in
    subst (λ (a : Arrival Message). Counts key old a c.sending.result new) c.came.view_is (record {
      exchange = exchange;
      closes = record {
        was = asked.is;
        closed = subst (λ (s : State). Changes s.exchanges c.close_answered.new.self key None) view c.close_answered.ensures.closed;
        fewer = c.close_answered.ensures.count ∙ ap (λ (s : State). count s.exchanges) view;
        next = c.close_answered.ensures.next;
      };
      lawful = asked.lawful;
      told = c.sending.ensures
          ∙ ap sends
          (c.going.ensures
          ∙ ap (λ xs. xs ++ option_to_list c.send_back-sent.result) acknowledged.sent
          ∙ ap (λ xs. sent_to from (acknowledgement message) ++ xs)
          (c.send_back-sent.ensures.sent ∙ back_sends_is exchange answer own c.settle.new.self asked.answer ∙ ap (λ (e : EndpointState). back_sends e exchange answer) heard_by));
      targets = ap (λ (s : State). s.targets) view;
      endpoint = c.send_back-sent.ensures.made ∙ back_kept_is exchange answer own c.settle.new.self now draw asked.answer
          ∙ ap (λ (e : EndpointState). back_kept e now draw exchange answer) heard_by;
    })

pub invariant_of-self : goal.invariant_of-self
invariant_of-self c =
    let inside = c.self.inside in
    let old = c.args.self.now in
    let now = c.came.inside.at in
    let from = c.came.inside.from in
    let draw = c.came.inside.draw.now in
    let message = c.came.inside.message in
    let it : Arrival Message = record { at = now; from = from; draw = draw; what = message } in
    let key = c.args.key in
    let named = c.args.named in
    let own = c.args.own in
    let asked : CanClose old it key named own = subst (λ (a : Arrival Message). CanClose old a key named own) (sym c.came.view_is) c.requires.exchange in
    let exchange = asked.exchange in
    let here : get inside.exchanges key ≡ Some exchange = ap (λ (s : State). get s.exchanges key) c.self.view_is ∙ asked.is in
    let by = acknowledged_by from message.kind message.id inside.endpoint.sending in
    let left : EachHasItsExchange c.close_answered.new.self c.settle.new.self.sending =
    subst (λ (e : EndpointState). EachHasItsExchange c.close_answered.new.self e.sending) (sym c.settle.ensures)
    (each_closed inside.exchanges c.close_answered.new.self key exchange (names_message from named) by here c.close_answered.ensures.closed
    (λ m. its_named from named exchange m asked.target asked.named)
    (each_fewer_by inside.exchanges from message.kind message.id inside.endpoint.sending c.self.invariant)) in
    let other : own.confirmable ≡ true → is_request own.kept ≡ false = λ confirmable.
    ap is_request (asked.answer.kept (sym asked.answer.kind ∙ confirmable)) ∙ no_request (answer_for old it exchange) asked.response in
    each_at c.close_answered.new.self c.close_answered.new.self c.send_back-sent.new.endpoint (back_kept_by own.confirmable c.settle.new.self now draw own.to own.kept)
    refl c.send_back-sent.ensures.made
    (each_back c.close_answered.new.self own.confirmable c.settle.new.self now draw own.to own.kept other left)

pub returns-clause-fits : goal.returns-clause-fits
returns-clause-fits c =
    let own = c.args.own in
    let is = c.requires.exchange.answer in
    let back = back_sends_by own.confirmable c.settle.new.self own.to own.sent in
    let first = sent_in c.args.acknowledged.out in
    sendable_step c.sending.result (first ++ back) (c.sending.ensures ∙ ap sends (c.going.ensures ∙ ap (λ xs. first ++ xs) c.send_back-sent.ensures.sent))
    (sendable_both first back
    (subst AreSendable (sym c.requires.acknowledged.sent) (sendable_acknowledgement (λ id. (c.what_nodes_send.ensures.short id).1) c.args.came.from c.args.came.what))
    (sendable_back own.confirmable c.settle.new.self own.to own.sent (subst FitsDatagram (sym is.sent) is.short)))

pub close_answered-requires : goal.close_answered-requires
close_answered-requires c =
    let here : get c.self.inside.exchanges c.args.key ≡ Some c.requires.exchange.exchange = ap (λ (s : State). get s.exchanges c.args.key) c.self.view_is ∙ c.requires.exchange.is in
    rw here refl
