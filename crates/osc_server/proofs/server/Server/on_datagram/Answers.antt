use Rattle.std.proofs.Common.{◌≡◌, ◌∙◌, ℕ, List, Result, Ok, Err, subst, sym}
use Rattle.std.specs.Prelude.{IfOk, OnErr}
use Rattle.std.proofs.lemmas.Result.{IfOk-weaker}
use Rattle.osc_coap.specs.{Spells}
use Rattle.osc_coap.specs.Message.{Message}
use Rattle.osc_model.specs.Arrival.{Arrival}
use Rattle.osc_message.specs.{Receives}
use Rattle.osc_message.specs.declared.heard.Heard.{Heard}
use Rattle.osc_message.specs.declared.heard.Heard.TheVariants as heard_as
use Rattle.osc_server.specs.{IsAnswered, Answers}
use Rattle.osc_authz.specs.{IsTable}
use Rattle.osc_server.proofs.StepKinds.{kind_of}
use Rattle.osc_server.proofs.Telling.{told}
use Rattle.osc_server.proofs.server.Server.on_datagram.Goals as goal

on_any_error : {T E P : Type 0} (result : Result T E) → P → OnErr result P
on_any_error (Ok value) holds = tt
on_any_error (Err error) holds = holds

on_error_weaker : {T E P Q : Type 0} (result : Result T E) → (P → Q) → OnErr result P → OnErr result Q
on_error_weaker (Ok value) f holds = tt
on_error_weaker (Err error) f holds = f holds

pub returns-clause-needs_memory : goal.returns-clause-needs_memory
returns-clause-needs_memory g c =
    let is = c.in_ok-heard.ensures.heard in
    on_error_weaker c.answer.result (λ asked. (is.0, is.1, subst (IsAnswered c.args.self.now.open_scope) is.2 asked)) c.answer.ensures.needs_memory

both : {T E : Type 0} (P Q : T → Type 0) (result : Result T E) → IfOk result P → IfOk result Q → IfOk result (λ value. P value × Q value)
both P Q (Ok value) p q = (p, q)
both P Q (Err error) p q = tt

pub returns-clause-kind : goal.returns-clause-kind
returns-clause-kind g c =
    IfOk-weaker c.answer.result _ _
    (λ step it. kind_of g.A.Ciphers.is_sealing
    (record { agrees = c.posts_that_agree.ensures; refuses = c.posts_that_are_refused.ensures; knows = c.posts_that_are_known.ensures; opens = c.requests_that_open.ensures; stay = c.answers_stay.ensures.tokens })
    c.args.self.now step c.answer.new.self
    (subst (λ s. IsTable s.desk.table) c.self.view_is c.has_a_table.ensures)
    it.1
    (record { at = c.args.now; from = c.args.from; draw = c.args.draw.now; what = c.args.bytes.now })
    c.in_ok-heard.heard c.drawn.ensures it.0)
    (both _ _ c.answer.result (c.answer.ensures.answered c.args.bytes.now) c.answer.ensures.table)

pub returns-clause-heard : goal.returns-clause-heard
returns-clause-heard g c =
    let old = c.args.self.now in
    let came : Arrival (List ℕ) = record { at = c.args.now; from = c.args.from; draw = c.args.draw.now; what = c.args.bytes.now } in
    let is = c.in_ok-heard.ensures.heard in
    let spelled : (message : Message) → c.in_ok-heard.heard ≡ heard_as.Message message → Spells c.args.bytes.now message =
    λ message e. (subst (Receives c.args.bytes.now) (c.what_is_heard.ensures old.endpoint.seen c.args.now c.args.from is.0 message (sym is.2 ∙ e)) is.1).1
    in
    IfOk-weaker c.answer.result _ _
    (λ step it. record {
      received = is.0;
      receives = is.1;
      answers = subst (λ (h : Heard). Answers g.A.Ciphers.is_sealing old came h step c.answer.new.self) is.2 it.0;
      told = told g.A.Ciphers.is_sealing c.what_is_sealed.ensures old came c.in_ok-heard.heard step c.answer.new.self c.in_ok-heard.ensures.alone spelled it.0;
      fits = it.1.fits;
    })
    (both _ _ c.answer.result (c.answer.ensures.answered c.args.bytes.now) c.answer.ensures.sent)
