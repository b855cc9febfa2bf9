use Rattle.std.proofs.Common.{◌≡◌, ◌∙◌, ap, subst, Result, Ok, Err, OnErr}
use Rattle.std.proofs.lemmas.Result.{IfOk-weaker}
use Rattle.osc_proxy.specs.{IsNewAnswered, case_of, Names, AnswersNew}
use Rattle.osc_coap.specs.Message.{Message}
use Rattle.osc_model.specs.Arrival.{Arrival}
use Rattle.osc_proxy.specs.State.{State}
use Rattle.osc_proxy.specs.declared.case.ForwardCase.{ForwardCase}
use Rattle.osc_proxy.proofs.proxy.Proxy.answer_new.Goals as goal

weaker : {T E : Type 0} (r : Result T E) (P Q : Type 0) → (P → Q) → OnErr r P → OnErr r Q
weaker (Ok x) P Q h p = tt
weaker (Err e) P Q h p = h p

pub returns-clause-answered : goal.returns-clause-answered
returns-clause-answered c =
    let old = c.args.self.now in
    let came = c.args.came in
    let is = c.case_of-case.ensures.case in
    let same : c.case_of-case.result ≡ case_of old.targets old.exchanges came.from is.0 came.what =
    is.2 ∙ ap (λ (s : State). case_of s.targets s.exchanges c.came.inside.from is.0 c.came.inside.message) c.self.view_is
    ∙ ap (λ (a : Arrival Message). case_of old.targets old.exchanges a.from is.0 a.what) c.came.view_is in
    let names : Names came.what.options is.0 = subst (λ (a : Arrival Message). Names a.what.options is.0) c.came.view_is is.1 in
    IfOk-weaker c.answer_in.result _ _
    (λ step told. record { named = is.0; names = names; answers = subst (λ (x : ForwardCase). AnswersNew old came x step c.answer_in.new.self) same told })
    c.answer_in.ensures.answered

pub returns-clause-needs_memory : goal.returns-clause-needs_memory
returns-clause-needs_memory c =
    let old = c.args.self.now in
    let came = c.args.came in
    let is = c.case_of-case.ensures.case in
    let same : c.case_of-case.result ≡ case_of old.targets old.exchanges came.from is.0 came.what =
    is.2 ∙ ap (λ (s : State). case_of s.targets s.exchanges c.came.inside.from is.0 c.came.inside.message) c.self.view_is
    ∙ ap (λ (a : Arrival Message). case_of old.targets old.exchanges a.from is.0 a.what) c.came.view_is in
    let names : Names came.what.options is.0 = subst (λ (a : Arrival Message). Names a.what.options is.0) c.came.view_is is.1 in
    weaker c.answer_in.result _ _ (λ told. (is.0, names, subst (λ (x : ForwardCase). IsNewAnswered came.what x) same told)) c.answer_in.ensures.needs_memory
