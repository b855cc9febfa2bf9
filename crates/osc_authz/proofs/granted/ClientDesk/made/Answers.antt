use Rattle.std.proofs.Common.{◌≡◌, ◌≢◌, [], ◌∷◌, Ok, refl, sym, ap, subst, ◌∙◌}
use Rattle.std.specs.Cmp.Lexicographic.{same_text, other_text}
use Rattle.osc_authz.specs.{Finishes, IsAnswer}
use Rattle.osc_authz.proofs.PayloadLemmas.{answer_from_fields, no_answer}
use Rattle.osc_authz.proofs.granted.ClientDesk.made.Goals as goal

pub returns-in_default-clause-finished : goal.returns-in_default-clause-finished
returns-in_default-clause-finished c = λ payload item.
    Finishes.no_answer refl (no_answer payload c.args.item.now item.only (sym c.in_default.ensures)) refl

pub returns-then-eq-clause-finished : goal.returns-then-eq-clause-finished
returns-then-eq-clause-finished c = λ payload item.
    let nonce2 = c.in-Some.answer.nonce2.now in
    let server_id = c.in-Some.answer.server_id.now in
    let is = answer_from_fields payload c.args.item.now nonce2 server_id item.whole (sym c.in-Some.ensures) in
    let equal : server_id ≡ c.args.exchange.now.recipient_id ∷ [] =
    same_text server_id c.as_slice.result.now c.if-eq.ensures ∙ c.as_slice.ensures ∙ ap (λ begun. begun.recipient_id ∷ []) c.exchange.view_is in
    Finishes.equal_ids nonce2 refl (subst (IsAnswer payload nonce2) equal is) refl

pub returns-clause-finished : goal.returns-clause-finished
returns-clause-finished c = λ payload item.
    let nonce2 = c.in-Some.answer.nonce2.now in
    let server_id = c.in-Some.answer.server_id.now in
    let is = answer_from_fields payload c.args.item.now nonce2 server_id item.whole (sym c.in-Some.ensures) in
    let apart : server_id ≢ c.args.exchange.now.recipient_id ∷ [] = λ equal.
    other_text server_id c.as_slice.result.now c.if-eq.ensures (equal ∙ sym (c.as_slice.ensures ∙ ap (λ begun. begun.recipient_id ∷ []) c.exchange.view_is)) in
    Finishes.made nonce2 server_id refl is apart (ap Ok c.in_ok-context.ensures)
