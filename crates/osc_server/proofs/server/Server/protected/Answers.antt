use Rattle.std.proofs.Common.{◌≡◌, refl, subst, sym}
use Rattle.std.proofs.lemmas.Result.{IfOk-weaker}
use Rattle.std.specs.Result.{IfOk}
use Rattle.osc_model.specs.Arrival.{Arrival}
use Rattle.osc_model.specs.declared.step.Step.{Step}
use Rattle.osc_coap.specs.Message.{Message}
use Rattle.osc_protect.specs.{IsRequest}
use Rattle.osc_authz.specs.{AreMarked, DeskState}
use Rattle.osc_server.specs.Inner.Parts.{noted_by}
use Rattle.osc_server.specs.{AnswersProtected, answer_to, refused, served}
use Rattle.osc_server.specs.declared.refusal.Refusal.TheVariants.{Malformed}
use Rattle.osc_server.specs.State.{State}
use Rattle.osc_server.proofs.ComesAgain.{answers_again, not_again}
use Rattle.osc_server.proofs.Served.{serves}
use Rattle.osc_server.proofs.server.Server.protected.Goals as goal

pub returns-in_default-clause-answered : goal.returns-in_default-clause-answered
returns-in_default-clause-answered g c =
    IfOk-weaker c.complain.result _ _
    (λ step sends. refused Malformed (λ request is. absurd (cc (
      c.in_default.is,
      c.sealed_request.ensures.only request
          (subst (λ (came : Arrival Message). IsRequest came.what request) (sym c.came.view_is) is),
    ))) sends)
    c.complain.ensures.sends

pub serve_opened-sealed-requires : goal.serve_opened-sealed-requires
serve_opened-sealed-requires g c = rw c.in-Ok-Ok.field-0-is at c.in-Ok-Ok.ensures.ready

pub invariant_of-self : goal.invariant_of-self
invariant_of-self g c =
    let old = c.self.inside in
    let says = c.in-Ok.says in
    let marked : AreMarked old.tree c.serve_opened-sealed.new.desk.table old.marks =
    subst (λ (desk : DeskState). AreMarked old.tree desk.table old.marks) (sym c.serve_opened-sealed.ensures.served.kept)
    (c.answers_stay.ensures.marked old.desk.rules.answers says.kid
    (answer_to c.args.came says c.serve_opened-sealed.ensures.served.replied.protected.sealed) old.tree old.desk.table old.marks c.self.invariant.1)
    in
    (c.self.invariant.0, c.mark_changed.ensures old.tree c.serve_opened-sealed.ensures.changed marked)

pub returns-in-Ok-Ok-clause-answered : goal.returns-in-Ok-Ok-clause-answered
returns-in-Ok-Ok-clause-answered g c =
    let it = c.serve_opened-sealed.result in
    let step : Step = record { out = it.out; notes = it.notes } in
    let kept : c.note.new.self ≡ record {
      tree = c.serve_opened-sealed.new.tree;
      desk = c.serve_opened-sealed.new.desk;
      open_scope = c.self.inside.open_scope;
      endpoint = noted_by c.self.inside.endpoint c.args.came it.reply;
    } = c.note.ensures in
    subst (λ old. AnswersProtected g.A.Ciphers.is_sealing old c.args.came step c.note.new.self) c.self.view_is
    (served
    (serves g.A.Ciphers.is_sealing
    (record { tree = c.self.inside.tree; desk = c.self.inside.desk; open_scope = c.self.inside.open_scope; endpoint = c.self.inside.endpoint })
    c.args.came c.in-Ok.says it c.serve_opened-sealed.new.tree c.serve_opened-sealed.new.desk step c.note.new.self
    c.serve_opened-sealed.ensures.served refl kept))

pub returns-in-Some-clause-answered : goal.returns-in-Some-clause-answered
returns-in-Some-clause-answered g c =
    let some = rw c.in-Some.is at c.in_ok-out-in-Ok-Err.ensures.some in
    let why = rw c.in-Ok-Err.field-0-is at c.in-Ok-Err.ensures.refused in
    subst (λ (old : State). AnswersProtected g.A.Ciphers.is_sealing old c.args.came c.sending.result c.note-in-Some.new.self) c.self.view_is
    (answers_again g.A.Ciphers.is_sealing c.one_request.ensures c.args.came c.in-Ok.says
    (subst (λ (came : Arrival Message). IsRequest came.what c.in-Ok.says) c.came.view_is c.in-Ok.ensures.found)
    (record { tree = c.self.inside.tree; desk = c.self.inside.desk; open_scope = c.self.inside.open_scope; endpoint = c.self.inside.endpoint })
    c.in-Ok-Err.refusal some.1 c.in-Some.out c.in-Some.reply c.sending.result c.note-in-Some.new.self why some.0 some.2 some.3 c.sending.ensures c.note-in-Some.ensures)

pub returns-in-None-clause-answered : goal.returns-in-None-clause-answered
returns-in-None-clause-answered g c =
    let none = rw c.in-None.is at c.in_ok-out-in-Ok-Err.ensures.none in
    let why = rw c.in-Ok-Err.field-0-is at c.in-Ok-Err.ensures.refused in
    let refusal = not_again g.A.Ciphers.is_sealing c.one_request.ensures c.args.came c.in-Ok.says
    (subst (λ (came : Arrival Message). IsRequest came.what c.in-Ok.says) c.came.view_is c.in-Ok.ensures.found)
    (record { tree = c.self.inside.tree; table = c.self.inside.desk.table }) c.in-Ok-Err.refusal why none in
    subst (λ (old : State). IfOk c.complain-in-None.result (λ step. AnswersProtected g.A.Ciphers.is_sealing old c.args.came step c.complain-in-None.new.self)) c.self.view_is
    (IfOk-weaker c.complain-in-None.result _ _ (λ step it. refused c.in-Ok-Err.refusal refusal it) c.complain-in-None.ensures.sends)
