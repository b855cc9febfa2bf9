-- A message that the proxy makes goes out by its bytes; a copy is kept only where it is confirmable.
use Rattle.std.proofs.Common.{◌≡◌, ℕ, Bool, true, false, List, refl, ap, ◌∙◌}
use Rattle.osc_model.specs.declared.node.Draw.{Draw}
use Rattle.osc_model.specs.declared.node.Moment.{Moment}
use Rattle.osc_model.specs.declared.node.Peer.{Peer}
use Rattle.osc_coap.specs.{spelling}
use Rattle.osc_coap.specs.Message.{Message}
use Rattle.osc_message.specs.{EndpointState}
use Rattle.osc_proxy.specs.Inner.Going.{IsOwn, back_kept_by, back_sends_by}
use Rattle.osc_proxy.specs.{goes_now, sends_own, with_own, back_kept, back_sends}
use Rattle.osc_proxy.specs.declared.exchanges.Exchange.{Exchange}
use Rattle.osc_proxy.specs.declared.sending.Own.{Own}

copy : (confirmable : Bool) (endpoint : EndpointState) (now : Moment) (draw : Draw) (to : Peer) (bytes kept : List ℕ)
    → (confirmable ≡ true → kept ≡ bytes) → with_own confirmable endpoint now draw to kept ≡ with_own confirmable endpoint now draw to bytes
copy true endpoint now draw to bytes kept is = ap (with_own true endpoint now draw to) (is refl)
copy false endpoint now draw to bytes kept is = refl

-- what is made of it at the message layer
pub made_is : (to : Peer) (confirmable : Bool) (bytes : List ℕ) (own : Own) (endpoint : EndpointState) (now : Moment) (draw : Draw) → IsOwn to confirmable bytes own
    → with_own own.confirmable endpoint now draw own.to own.kept ≡ with_own confirmable endpoint now draw to bytes
made_is to confirmable bytes own endpoint now draw is =
    ap (λ c. with_own c endpoint now draw own.to own.kept) is.kind
    ∙ ap (λ (p : Peer). with_own confirmable endpoint now draw p own.kept) is.to_is
    ∙ copy confirmable endpoint now draw to bytes own.kept is.kept

-- what goes out of it
pub sent_is : (to : Peer) (confirmable : Bool) (bytes : List ℕ) (own : Own) (endpoint : EndpointState) → IsOwn to confirmable bytes own
    → sends_own (goes_now own.confirmable own.to endpoint) own.to own.sent ≡ sends_own (goes_now confirmable to endpoint) to bytes
sent_is to confirmable bytes own endpoint is =
    ap (λ c. sends_own (goes_now c own.to endpoint) own.to own.sent) is.kind
    ∙ ap (λ (p : Peer). sends_own (goes_now confirmable p endpoint) p own.sent) is.to_is
    ∙ ap (sends_own (goes_now confirmable to endpoint) to) is.sent

kept_by : (confirmable : Bool) (endpoint : EndpointState) (now : Moment) (draw : Draw) (to : Peer) (bytes kept : List ℕ)
    → (confirmable ≡ true → kept ≡ bytes) → back_kept_by confirmable endpoint now draw to kept ≡ back_kept_by confirmable endpoint now draw to bytes
kept_by confirmable endpoint now draw to bytes kept is = rw (copy confirmable endpoint now draw to bytes kept is) refl

-- the same of an answer that goes back
pub back_kept_is : (exchange : Exchange) (message : Message) (own : Own) (endpoint : EndpointState) (now : Moment) (draw : Draw)
    → IsOwn exchange.client exchange.confirmable (spelling message) own
    → back_kept_by own.confirmable endpoint now draw own.to own.kept ≡ back_kept endpoint now draw exchange message
back_kept_is exchange message own endpoint now draw is =
    ap (λ c. back_kept_by c endpoint now draw own.to own.kept) is.kind
    ∙ ap (λ (p : Peer). back_kept_by exchange.confirmable endpoint now draw p own.kept) is.to_is
    ∙ kept_by exchange.confirmable endpoint now draw exchange.client (spelling message) own.kept is.kept

pub back_sends_is : (exchange : Exchange) (message : Message) (own : Own) (endpoint : EndpointState)
    → IsOwn exchange.client exchange.confirmable (spelling message) own
    → back_sends_by own.confirmable endpoint own.to own.sent ≡ back_sends endpoint exchange message
back_sends_is exchange message own endpoint is =
    ap (λ c. back_sends_by c endpoint own.to own.sent) is.kind
    ∙ ap (λ (p : Peer). back_sends_by exchange.confirmable endpoint p own.sent) is.to_is
    ∙ ap (back_sends_by exchange.confirmable endpoint exchange.client) is.sent
