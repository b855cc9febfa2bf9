use Rattle.std.proofs.Common.{◌≡◌, ◌∙◌, ℕ, List, Option, ap, subst, sym}
use Rattle.std.proofs.lemmas.Result.{IfOk-weaker}
use Rattle.osc_coap.specs.Message.{Message}
use Rattle.osc_model.specs.{apply, MayReply}
use Rattle.osc_model.specs.Arrival.{Arrival}
use Rattle.osc_model.specs.Scope.{Scope}
use Rattle.osc_model.specs.Tree.{Tree}
use Rattle.osc_server.specs.{AnswersNew, case_of}
use Rattle.osc_server.specs.State.{State}
use Rattle.osc_server.specs.Table.{AnswersWith}
use Rattle.osc_server.specs.declared.case.RequestCase.{RequestCase}
use Rattle.osc_server.specs.declared.case.RequestCase.TheVariants.{OpenGet}
use Rattle.osc_server.proofs.Cases.{IsUnder, under_open_scope}
use Rattle.osc_server.proofs.server.Server.answer_new.Goals as goal

pub returns-in-OpenGet-clause-answered : goal.returns-in-OpenGet-clause-answered
returns-in-OpenGet-clause-answered g c =
    let old = c.args.self.now in
    let came = c.args.came in
    let granted = c.in-OpenGet.grant in
    let reply = c.open_reply-reply.result in
    let before : State = record { tree = c.self.inside.tree; desk = c.self.inside.desk; open_scope = c.self.inside.open_scope; endpoint = c.self.inside.endpoint } in
    let case_is : OpenGet granted ≡ case_of old.open_scope came.what =
    sym c.in-OpenGet.is ∙ c.in_ok-case_of.ensures.case
    ∙ ap (λ (s : State). case_of s.open_scope c.came.inside.message) c.self.view_is
    ∙ ap (λ (a : Arrival Message). case_of old.open_scope a.what) c.came.view_is in
    let scope : granted.scope ≡ old.open_scope = subst (IsUnder old.open_scope) (sym case_is) (under_open_scope old.open_scope came.what) in
    let may : MayReply (apply before.desk.rules.revoked before.tree granted.scope granted.request) reply =
    subst (λ (root : Option (List ℕ)). MayReply (apply root before.tree granted.scope granted.request) reply) c.revoked.ensures c.open_reply-reply.ensures.reply in
    let right : MayReply (apply old.desk.rules.revoked old.tree old.open_scope granted.request) reply =
    subst (λ (s : Scope). MayReply (apply old.desk.rules.revoked old.tree s granted.request) reply) scope
    (subst (λ (s : State). MayReply (apply s.desk.rules.revoked s.tree granted.scope granted.request) reply) c.self.view_is may) in
    let same : record before { tree = c.open_reply-reply.new.tree } ≡ old =
    ap (λ (t : Tree). record before { tree = t }) c.open_reply-reply.ensures.same ∙ c.self.view_is in
    IfOk-weaker c.give.result _ _
    (λ step told. subst (λ (it : RequestCase). AnswersNew g.A.Ciphers.is_sealing old came it step c.give.new.self) case_is
    (record { reply = reply; may = right; replies = subst (λ (s : State). AnswersWith s came reply step c.give.new.self) same told }))
    c.give.ensures.replied
