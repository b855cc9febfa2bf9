use Rattle.std.proofs.Common.{◌≡◌, ℕ, List, Option, Some, ap, subst, sym, ◌∙◌}
use Rattle.std.specs.Option.{option_map}
use Rattle.std.proofs.lemmas.Option.{same_Some}
use Rattle.osc_authz.specs.SecurityContext.{SecurityContext}
use Rattle.osc_authz.specs.declared.token_entry.TokenEntry.{TokenEntry}
use Rattle.osc_authz.specs.{DeskState, LastAnswerState, accepted, confirmed_at, holder_at, taking, with_id}
use Rattle.osc_context.specs.{Accepted}
use Rattle.osc_model.specs.{apply_read}
use Rattle.osc_model.specs.StepNotes.{StepNotes}
use Rattle.osc_options.specs.{read_request}
use Rattle.osc_run.specs.{Replies as AppliesTo}
use Rattle.osc_server.proofs.Changes.{OnePath, replied_changes}
use Rattle.osc_server.proofs.Requests.{is_found}
use Rattle.osc_server.proofs.Served.{kept_as, served_as, with_kept_as}
use Rattle.osc_server.specs.{answer_to, notes_of_request, served_desk}
use Rattle.osc_server.specs.Inner.Parts.{DifferAt, IsReplied, Standing, if_kept, kept_answer, kept_sealed, may_change, may_change_by, with_kept}
use Rattle.osc_server.proofs.serving.serve_opened.Goals as goal

pub accept-number-requires-clause-fresh : goal.accept-number-requires-clause-fresh
accept-number-requires-clause-fresh g c =
    let held = c.requires.held in
    let opened = c.requires.opened in (
      held,
      rw c.kid.ensures (is_found (record { at = c.args.request.now.came.now.at; tree = c.args.tree.now }) c.args.request.now.says.kid c.args.request.now.says.kid_context c.args.desk.now.table held opened.meant.is_meant).same,
      rw c.number.ensures.value opened.fresh,
    )

pub keep-requires : goal.keep-requires
keep-requires g c =
    let opened = c.requires.opened in
    let held : SecurityContext = c.requires.held in
    let there : with_id c.kid.result.now c.args.desk.now.table ≡ Some held =
    rw c.kid.ensures (is_found (record { at = c.args.request.now.came.now.at; tree = c.args.tree.now }) c.args.request.now.says.kid c.args.request.now.says.kid_context c.args.desk.now.table held opened.meant.is_meant).same
    in
    record { there = (taking c.number.result held, rw there at c.accept-number.ensures.placed) }

pub returns-clause-served : goal.returns-clause-served
returns-clause-served g c =
    let opened = c.requires.opened in
    let held : SecurityContext = c.requires.held in
    let there : with_id c.kid.result.now c.args.desk.now.table ≡ Some held =
    rw c.kid.ensures (is_found (record { at = c.args.request.now.came.now.at; tree = c.args.tree.now }) c.args.request.now.says.kid c.args.request.now.says.kid_context c.args.desk.now.table held opened.meant.is_meant).same
    in
    let again : confirmed_at c.accept-number.result.1 c.accept-number.new.self.table ≡ Some (taking c.number.result held) = rw there at c.accept-number.ensures.placed in
    let read : Some c.unwrap-context.result.now ≡ confirmed_at c.accept-number.result.1 c.accept-number.new.self.table = rw c.unwrap-context.ensures at c.confirmed_at.ensures in
    let context : c.unwrap-context.result.now ≡ taking c.number.result held =
    same_Some c.unwrap-context.result.now (taking c.number.result held) (read ∙ again)
    in
    let right = rw there at c.accept-number.ensures.right in
    let number : c.accept-number.result.0.number ≡ c.args.request.now.says.number = ap (λ (r : Accepted). r.number) right ∙ c.number.ensures.value in
    let came = c.args.request.now.came.now in
    let old : Standing = record { tree = c.args.tree.now; desk = c.args.desk.now; endpoint = c.args.endpoint.now } in
    let text = c.args.taken.note.plaintext in
    let root : option_map (λ path. path.now) c.revoked.result ≡ c.args.desk.now.rules.revoked = c.revoked.ensures ∙ ap (λ (desk : DeskState). desk.rules.revoked) c.accept-number.ensures.accepted in
    let replied : IsReplied g.A.Ciphers.is_sealing old came
    (record { held = c.unwrap-context.result.now; holder = holder_at c.args.request.now.says.kid c.args.desk.now.table; number = c.accept-number.result.0.number; text = text }) c.answered-answer.result.0 c.applied-reply.new.tree = record {
      reply = c.applied-reply.result;
      within = c.applied-reply.ensures.within;
      applied = subst (λ (root : Option (List ℕ)). AppliesTo c.args.tree.now (apply_read root c.args.tree.now c.unwrap-context.result.now.scope (read_request text)) c.applied-reply.result c.applied-reply.new.tree) root
          (rw (c.scope.ensures, c.requires.room.read) at c.applied-reply.ensures.applied);
      answer = c.answered-answer.ensures.protected.0;
      protected = c.answered-answer.ensures.protected.1;
      sends = c.answered-answer.ensures.protected.2;
      noted = c.answered-answer.ensures.noted
          ∙ ap (λ (h : Option (List ℕ)). notes_of_request came.at c.unwrap-context.result.now h c.accept-number.result.0.number text c.applied-reply.result) c.requires.holder;
    } in
    let answers = c.args.desk.now.rules.answers in
    let says = c.args.request.now.says in
    let own : LastAnswerState = answer_to came says replied.protected.sealed in
    let last : c.answered-answer.result.1 ≡ if_kept answers own =
    c.answered-answer.ensures.protected.3 ∙ kept_as answers came says c.accept-number.result.0.number replied.protected.sealed (kept_sealed c.args.taken.room.kept) number c.requires.kept in
    let before = c.args.desk.now in
    let kid : held.name.client_id ≡ says.kid =
    (c.meant_contexts.ensures (record { at = came.at; tree = c.args.tree.now }) says.kid says.kid_context before.table held opened.meant.is_meant).4 in
    let taken : c.accept-number.new.self ≡ record before { table = accepted says.kid says.number before.table } =
    c.accept-number.ensures.accepted ∙ (λ i. record before { table = accepted (c.kid.ensures i) (c.number.ensures.value i) before.table }) in
    let desk : c.keep.new.desk ≡ served_desk before came says replied.protected.sealed =
    (rw again at c.keep.ensures)
    ∙ (λ i. record (taken i) { table = with_kept (kid i) (last i) (taken i).table })
    ∙ ap (λ (t : List TokenEntry). record before { table = t }) (with_kept_as answers says.kid own before.table) in
    served_as g.A.Ciphers.is_sealing old came says
    held c.unwrap-context.result.now c.number.result c.accept-number.result.0.number text c.answered-answer.result.0 c.applied-reply.new.tree c.keep.new.desk
    opened context number replied desk

pub returns-clause-changed : goal.returns-clause-changed
returns-clause-changed g c =
    let laws = c.one_path_changed.ensures in
    let law : OnePath = record { put = laws.put; removed = laws.removed; unchanged = laws.unchanged } in
    let asked : may_change_by c.answered-answer.result.0.notes.served ≡ may_change c.args.taken.read =
    ap (λ (notes : StepNotes). may_change_by notes.served) c.answered-answer.ensures.noted ∙ ap may_change (sym c.requires.room.read)
    in
    subst (λ (path : Option (List ℕ)). DifferAt path c.args.tree.now c.applied-reply.new.tree) (sym asked)
    (replied_changes law _ c.args.tree.now c.applied-reply.new.tree _ c.args.taken.read c.applied-reply.result c.applied-reply.ensures.applied)

pub answered-answer-requires-clause-taken : goal.answered-answer-requires-clause-taken
answered-answer-requires-clause-taken g c = (c.args.tree.now, c.requires.room, c.applied-reply.ensures.short)
