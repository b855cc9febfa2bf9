use Rattle.std.proofs.Common.{ℕ, List, subst, Result, Ok, Err, OnErr}
use Rattle.std.specs.Prelude.{IfOk}
use Rattle.std.proofs.lemmas.Result.{IfOk-weaker}
use Rattle.osc_model.specs.Arrival.{Arrival}
use Rattle.osc_message.specs.declared.heard.Heard.{Heard}
use Rattle.osc_proxy.specs.{Answers, IsAnswered}
use Rattle.osc_proxy.proofs.Steps.{small_step}
use Rattle.osc_proxy.proofs.proxy.Proxy.step_for.Goals as goal

pub returns-clause-few : goal.returns-clause-few
returns-clause-few c =
    let it : Arrival (List ℕ) = record { at = c.args.now; from = c.args.from; draw = c.args.draw.now; what = c.args.bytes.now } in
    IfOk-weaker c.answer.result _ _
    (λ step answers. (small_step c.args.self.now it c.in_ok-heard.heard step c.answer.new.self c.in_ok-heard.ensures.alone (answers it.what)).few)
    c.answer.ensures.answered

weaker : {T E : Type 0} (r : Result T E) (P Q : Type 0) → (P → Q) → OnErr r P → OnErr r Q
weaker (Ok x) P Q h p = tt
weaker (Err e) P Q h p = h p

both : {T E : Type 0} (r : Result T E) (P Q : T → Type 0) → IfOk r P → IfOk r Q → IfOk r (λ x. P x × Q x)
both (Ok x) P Q p q = (p, q)
both (Err e) P Q p q = tt

pub returns-clause-heard : goal.returns-clause-heard
returns-clause-heard c =
    let old = c.args.self.now in
    let it : Arrival (List ℕ) = record { at = c.args.now; from = c.args.from; draw = c.args.draw.now; what = c.args.bytes.now } in
    let is = c.in_ok-heard.ensures.heard in
    IfOk-weaker c.answer.result _ _
    (λ step told.
    let small = small_step old it c.in_ok-heard.heard step c.answer.new.self c.in_ok-heard.ensures.alone (told.0 it.what) in
    record {
      received = is.0;
      receives = is.1;
      answers = subst (λ (h : Heard). Answers old it h step c.answer.new.self) is.2 (told.0 it.what);
      refused = small.refused;
      silent = small.nothing;
      fits = told.1;
    })
    (both c.answer.result _ _ c.answer.ensures.answered c.answer.ensures.fits)

pub returns-clause-needs_memory : goal.returns-clause-needs_memory
returns-clause-needs_memory c =
    let is = c.in_ok-heard.ensures.heard in
    weaker c.answer.result _ _
    (λ answered. record { received = is.0; receives = is.1; answered = subst (λ (h : Heard). IsAnswered c.args.self.now c.args.from h) is.2 answered })
    c.answer.ensures.needs_memory
