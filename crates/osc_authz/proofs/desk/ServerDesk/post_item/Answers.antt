use Rattle.std.proofs.Common.{refl, sym}
use Rattle.osc_authz.specs.{Posts}
use Rattle.osc_authz.proofs.PayloadLemmas.{no_post, post_from_fields}
use Rattle.osc_authz.proofs.PostLemmas.{opened_post, unopened_post}
use Rattle.osc_authz.proofs.desk.ServerDesk.post_item.Goals as goal

pub returns-in_default-clause-posted : goal.returns-in_default-clause-posted
returns-in_default-clause-posted g c = λ body item.
    Posts.no_post (no_post body c.args.item.now item.only (sym c.in_default.ensures)) c.refused.ensures refl

pub returns-in_ok-answer-in-Some-2-clause-posted :
    goal.returns-in_ok-answer-in-Some-2-clause-posted
returns-in_ok-answer-in-Some-2-clause-posted g c = λ body item.
    let fields = c.in-Some.fields in
    let is_post = post_from_fields body c.args.item.now fields.token.now fields.nonce1.now fields.client_id.now item.whole (sym c.in-Some.ensures) in
    let found = c.in_ok-note.ensures.opened c.in-Some-2.note c.in-Some-2.is in
    opened_post g.A.Aead.is_sealing c.args.self.now c.answer.new.self (record { on = c.args.on.now; body = body; draw = c.args.draw.now })
    fields.token.now fields.nonce1.now fields.client_id.now is_post
    found.0 found.1 c.in-Some-2.note c.in_ok-answer-in-Some-2.field-0.answer c.in_ok-answer-in-Some-2.field-0.holder found.2 found.3 found.4
    (rw (← c.as_slice.ensures) c.in_ok-answer-in-Some-2.ensures.answers)

pub returns-in-None-clause-posted : goal.returns-in-None-clause-posted
returns-in-None-clause-posted g c = λ body item.
    let fields = c.in-Some.fields in
    let is_post = post_from_fields body c.args.item.now fields.token.now fields.nonce1.now fields.client_id.now item.whole (sym c.in-Some.ensures) in
    unopened_post g.A.Aead.is_sealing c.args.self.now c.args.self.now (record { on = c.args.on.now; body = body; draw = c.args.draw.now })
    fields.token.now fields.nonce1.now fields.client_id.now is_post
    c.refused-in-None.result (c.in_ok-note.ensures.none c.in-None.is) c.refused-in-None.ensures refl
