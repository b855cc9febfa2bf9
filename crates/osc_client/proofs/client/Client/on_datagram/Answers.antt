use Rattle.std.proofs.Common.{◌≡◌, ◌∙◌, ap, ℕ, List, [], Result, Ok, Err, subst, sym}
use Rattle.std.specs.Prelude.{OnErr}
use Rattle.std.proofs.lemmas.Result.{IfOk-weaker}
use Rattle.osc_coap.specs.{Spells}
use Rattle.osc_coap.specs.Message.{Message}
use Rattle.osc_client.specs.Inner.Bounds.{HasContext}
use Rattle.osc_model.specs.Arrival.{Arrival}
use Rattle.osc_message.specs.{AnswersAlone, heard as heard_in, Receives, AreSendable}
use Rattle.osc_message.specs.declared.heard.Heard.{Heard}
use Rattle.osc_message.specs.declared.heard.Heard.TheVariants as heard
use Rattle.osc_client.specs.State.{State}
use Rattle.osc_client.specs.{Answers, TakesMemory}
use Rattle.osc_client.proofs.Fitting.{both_ok}
use Rattle.osc_client.proofs.Sent.{one_is_sent}
use Rattle.osc_client.proofs.StepKinds.{kind_of}
use Rattle.osc_client.proofs.Telling.{datagram_told}
use Rattle.osc_client.proofs.client.Client.on_datagram.Goals as goal

pub returns-clause-kind : goal.returns-clause-kind
returns-clause-kind g c =
    let it : Arrival (List ℕ) = record { at = c.args.now; from = c.args.from; draw = record { 0 = [] }; what = c.args.bytes.now } in
    let has : HasContext c.args.self.now.context c.args.self.now.waiting = subst (λ s. HasContext s.context s.waiting) c.self.view_is c.self.invariant.1 in
    IfOk-weaker c.answer.result _ _
    (λ step answers. kind_of g.A.Ciphers.is_sealing c.args.self.now it c.in_ok-heard.heard step c.answer.new.self has c.exchanges_that_make.ensures (answers it.draw it.what))
    c.answer.ensures.answered

pub returns-clause-sent : goal.returns-clause-sent
returns-clause-sent g c =
    let it : Arrival (List ℕ) = record { at = c.args.now; from = c.args.from; draw = record { 0 = [] }; what = c.args.bytes.now } in
    let alone : AnswersAlone c.args.self.now.endpoint.seen c.args.now c.args.from c.in_ok-heard.heard =
    subst (λ (s : State). AnswersAlone s.endpoint.seen c.args.now c.args.from c.in_ok-heard.heard) c.self.view_is c.in_ok-heard.ensures.alone in
    IfOk-weaker c.answer.result _ _
    (λ step answers. one_is_sent g.A.Ciphers.is_sealing c.args.self.now it c.in_ok-heard.heard step c.answer.new.self alone (answers it.draw it.what))
    c.answer.ensures.answered

weaker : {T E : Type 0} (r : Result T E) (P Q : Type 0) → (P → Q) → OnErr r P → OnErr r Q
weaker (Ok x) P Q h p = tt
weaker (Err e) P Q h p = h p

pub returns-clause-needs_memory : goal.returns-clause-needs_memory
returns-clause-needs_memory g c =
    let is = c.in_ok-heard.ensures.heard in
    let same = is.2 ∙ ap (λ (s : State). heard_in s.endpoint.seen c.args.now c.args.from is.0) c.self.view_is in
    weaker c.answer.result _ _ (λ takes. (is.0, is.1, subst (TakesMemory c.args.self.now c.args.from) same takes)) c.answer.ensures.needs_memory

pub returns-clause-heard : goal.returns-clause-heard
returns-clause-heard g c =
    let old = c.args.self.now in
    let is = c.in_ok-heard.ensures.heard in
    let same : c.in_ok-heard.heard ≡ heard_in old.endpoint.seen c.args.now c.args.from is.0 =
    is.2 ∙ ap (λ (s : State). heard_in s.endpoint.seen c.args.now c.args.from is.0) c.self.view_is in
    let alone : AnswersAlone old.endpoint.seen c.args.now c.args.from c.in_ok-heard.heard =
    subst (λ (s : State). AnswersAlone s.endpoint.seen c.args.now c.args.from c.in_ok-heard.heard) c.self.view_is c.in_ok-heard.ensures.alone in
    let spelled : (message : Message) → c.in_ok-heard.heard ≡ heard.Message message → Spells c.args.bytes.now message =
    λ message e. (subst (Receives c.args.bytes.now) (c.what_is_heard.ensures old.endpoint.seen c.args.now c.args.from is.0 message (sym same ∙ e)) is.1).1 in
    IfOk-weaker c.answer.result _ _
    (λ step both draw.
    let it : Arrival (List ℕ) = record { at = c.args.now; from = c.args.from; draw = draw; what = c.args.bytes.now } in
    record {
      received = is.0;
      receives = is.1;
      answers = subst (λ (h : Heard). Answers g.A.Ciphers.is_sealing old it h step c.answer.new.self) same (both.0 draw it.what);
      told = datagram_told g.A.Ciphers.is_sealing old c.args.now it.what c.args.from draw c.in_ok-heard.heard step c.answer.new.self alone spelled (both.0 draw it.what);
      fits = both.1;
    })
    (both_ok c.answer.result _ (λ step. AreSendable step.out) c.answer.ensures.answered c.answer.ensures.fits)
