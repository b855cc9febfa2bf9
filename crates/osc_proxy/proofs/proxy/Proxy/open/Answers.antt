use Rattle.std.proofs.Common.{◌≡◌, ◌+◌, ◌∷◌, ◌++◌, false, drop, refl, sym, ap, ◌∙◌, subst, Some}
use Rattle.std.specs.Option.{option_to_list}
use Rattle.osc_coap.specs.{HasSpelling, spelling}
use Rattle.osc_coap.specs.Message.{Message}
use Rattle.osc_message.specs.{EndpointState, own_id, settled, AreSendable, FitsDatagram, acknowledgement, is_confirmable, sent_to}
use Rattle.osc_message.specs.declared.handling.Handling.TheVariants as handling
use Rattle.osc_message.specs.declared.heard.Heard.TheVariants as heard
use Rattle.osc_model.specs.Arrival.{Arrival}
use Rattle.osc_model.specs.{token_drawn, sends}
use Rattle.osc_proxy.specs.{EachHasItsExchange, Changes, count, get, goes_now, sends_own, with_own, IsForwarded, exchange_of, forwarded_by, key_for, next_own, taken_up}
use Rattle.osc_proxy.specs.Inner.Bounds.{names_one}
use Rattle.osc_proxy.specs.Inner.Going.{Acknowledges, IsOwn, sent_in}
use Rattle.osc_proxy.specs.Passage.{Passage}
use Rattle.osc_proxy.specs.State.{State}
use Rattle.osc_proxy.specs.declared.exchanges.Exchange.{Exchange}
use Rattle.osc_proxy.proofs.Its.{each_at, each_opened, none_named}
use Rattle.osc_proxy.proofs.Fits.{sendable_acknowledgement, sendable_both, sendable_own, sendable_step}
use Rattle.osc_proxy.proofs.Goes.{made_is, sent_is}
use Rattle.osc_proxy.proofs.Keys.{next_is}
use Rattle.osc_proxy.proofs.proxy.Proxy.open.Goals as goal

pub returns-clause-forwarded : goal.returns-clause-forwarded
returns-clause-forwarded c =
    let inside = c.self.inside in
    let old = c.args.self.now in
    let now = c.came.inside.at in
    let from = c.came.inside.from in
    let draw = c.came.inside.draw.now in
    let message = c.came.inside.message in
    let came : Arrival Message = record { at = now; from = from; draw = draw; what = message } in
    let key = c.args.key in
    let own = c.args.own in
    let to = own.to in
    let kind = is_confirmable message.kind in
    let it : Passage = record { came = came; to = to; key = key } in
    let seen_as : came ≡ c.args.came = c.came.view_is in
    let acknowledged : Acknowledges from message c.args.acknowledged =
    subst (λ (a : Arrival Message). Acknowledges a.from a.what c.args.acknowledged) (sym seen_as) c.requires.acknowledged in
    let free : key_for old message to ≡ Some key = ap (λ (a : Arrival Message). key_for old a.what to) seen_as ∙ c.requires.key in
    let is_own : IsOwn to kind (spelling (forwarded_by old it)) own =
    subst (λ (a : Arrival Message). IsOwn to (is_confirmable a.what.kind) (spelling (forwarded_by old (record { came = a; to = to; key = key }))) own)
    (sym seen_as) c.requires.own in
    let new : State = record { targets = inside.targets; exchanges = c.open.new.self; endpoint = c.send_own-sent.new.endpoint } in
    let bytes = spelling (forwarded_by old it) in
    let view = c.self.view_is in
    let taken : c.settle.new.self ≡ taken_up old came =
    c.settle.ensures
    ∙ ap (λ r. settled inside.endpoint now from (heard.Message message) (handling.Answered r)) acknowledged.noted
    ∙ ap (λ (s : State). taken_up s came) view in
    let next : inside.exchanges.next ≡ key = ap (λ (s : State). s.exchanges.next) view ∙ next_is old message to key free in
    let id : c.own_id-id.result ≡ next_own old draw = c.own_id-id.ensures ∙ ap (λ (s : State). next_own s draw) view in
    let exchange : c.opened-exchange.result ≡ exchange_of (next_own old draw) it =
    c.opened-exchange.ensures ∙ ap (λ (a : Arrival Message). exchange_of c.own_id-id.result (record { came = a; to = to; key = key })) (sym seen_as)
    ∙ ap (λ i. exchange_of i it) id in
    subst (λ (a : Arrival Message). IsForwarded old (record { came = a; to = to; key = key }) c.sending.result new) seen_as (record {
      lawful = subst (λ (a : Arrival Message). HasSpelling (forwarded_by old (record { came = a; to = to; key = key }))) (sym seen_as) c.requires.lawful;
      told = c.sending.ensures
          ∙ ap sends
          (c.going.ensures
          ∙ ap (λ xs. xs ++ option_to_list c.send_own-sent.result) acknowledged.sent
          ∙ ap (λ xs. sent_to from (acknowledgement message) ++ xs)
          (c.send_own-sent.ensures.sent ∙ sent_is to kind bytes own c.settle.new.self is_own
          ∙ ap (λ (e : EndpointState). sends_own (goes_now kind to e) to bytes) taken));
      targets = ap (λ (s : State). s.targets) view;
      endpoint = c.send_own-sent.ensures.made ∙ made_is to kind bytes own c.settle.new.self now draw is_own
          ∙ ap (λ (e : EndpointState). with_own kind e now draw to bytes) taken;
      was_free = ap (λ (s : State). get s.exchanges key) (sym view) ∙ ap (get inside.exchanges) (sym next) ∙ c.open.ensures.was_free;
      opened = subst (λ (s : State). Changes s.exchanges c.open.new.self key (Some (exchange_of (next_own old draw) it))) view
          (subst (λ k. Changes inside.exchanges c.open.new.self k (Some (exchange_of (next_own old draw) it))) next
          (subst (λ (e : Exchange). Changes inside.exchanges c.open.new.self inside.exchanges.next (Some e)) exchange c.open.ensures.opened));
      more = c.open.ensures.count ∙ ap (λ (s : State). count s.exchanges + 1) view;
    })

pub invariant_of-self : goal.invariant_of-self
invariant_of-self c =
    let inside = c.self.inside in
    let own = c.args.own in
    let now = c.came.inside.at in
    let from = c.came.inside.from in
    let draw = c.came.inside.draw.now in
    let message = c.came.inside.message in
    let apart : names_one message.kind ≡ false = ap (λ (a : Arrival Message). names_one a.what.kind) c.came.view_is ∙ c.requires.kind in
    let before = c.settle.new.self in
    let is = c.opened-exchange.ensures in
    let same : before.sending ≡ inside.endpoint.sending =
    ap (λ (e : EndpointState). e.sending) c.settle.ensures ∙ none_named from message.kind message.id inside.endpoint.sending apart in
    let id : c.opened-exchange.result.id ≡ own_id draw before.next_id =
    ap (λ (e : Exchange). e.id) is ∙ c.own_id-id.ensures ∙ sym (ap (λ (e : EndpointState). own_id draw e.next_id) c.settle.ensures) in
    each_at c.open.new.self c.open.new.self c.send_own-sent.new.endpoint (with_own own.confirmable before now draw own.to own.kept) refl c.send_own-sent.ensures.made
    (each_opened inside.exchanges c.open.new.self inside.exchanges.next c.opened-exchange.result own.confirmable before now draw own.to own.kept
    c.open.ensures.was_free c.open.ensures.opened (ap (λ (e : Exchange). e.confirmable) is ∙ sym c.requires.own.kind) (ap (λ (e : Exchange). e.target) is) id
    (subst (EachHasItsExchange inside.exchanges) (sym same) c.self.invariant))

-- its token begins with its key
pub open-requires-clause-own_token : goal.open-requires-clause-own_token
open-requires-clause-own_token c =
    let draw = c.args.came.draw in
    let rest = drop 1 (token_drawn draw) in
    let next : c.self.inside.exchanges.next ≡ c.args.key =
    ap (λ (s : State). s.exchanges.next) c.self.view_is ∙ next_is c.args.self.now c.args.came.what c.args.own.to c.args.key c.requires.key in
    let token : c.opened-exchange.result.token ≡ c.args.key ∷ rest = ap (λ (e : Exchange). e.token) c.opened-exchange.ensures in
    (rest, token ∙ ap (λ k. k ∷ rest) (sym next))

pub returns-clause-fits : goal.returns-clause-fits
returns-clause-fits c =
    let own = c.args.own in
    let goes = goes_now own.confirmable own.to c.settle.new.self in
    let first = sent_in c.args.acknowledged.out in
    sendable_step c.sending.result (first ++ sends_own goes own.to own.sent)
    (c.sending.ensures ∙ ap sends (c.going.ensures ∙ ap (λ xs. first ++ xs) c.send_own-sent.ensures.sent))
    (sendable_both first (sends_own goes own.to own.sent)
    (subst AreSendable (sym c.requires.acknowledged.sent) (sendable_acknowledgement (λ id. (c.what_nodes_send.ensures.short id).1) c.args.came.from c.args.came.what))
    (sendable_own goes own.to own.sent (subst FitsDatagram (sym c.requires.own.sent) c.requires.own.short)))
