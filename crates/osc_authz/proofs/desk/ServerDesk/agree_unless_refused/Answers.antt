use Rattle.std.proofs.Common.{rules, Some, true, false, refl, sym, ap, ◌∙◌}
use Rattle.osc_authz.specs.{Answers, AreMarked, IsFull, alive, known}
use Rattle.osc_authz.proofs.PostLemmas.{allowed, judged_revoked, known_answers, not_allowed}
use Rattle.osc_authz.proofs.desk.ServerDesk.agree_unless_refused.Goals as goal

pub returns-then-is_there-clause-answers : goal.returns-then-is_there-clause-answers
returns-then-is_there-clause-answers c = λ text comes.
    let taken = allowed c.self.inside.rules c.args.self.now.rules c.args.scope c.allows.result c.allows.ensures (ap (λ desk. desk.rules) c.self.view_is) c.if-not-allows.false in
    let tree = ap (λ on. on.tree) c.on.view_is ∙ ap (λ offer. offer.on.tree) c.offer.view_is in
    let gone = judged_revoked c.on.inside.tree.now c.args.offer.now.on.tree c.in_ok-revocation.revocation c.args.self.now.rules.revoked c.as_slice.result.now c.args.claims.material.id
    c.is_there.result true c.is_there.ensures c.if-is_there.true tree c.in_ok-revocation.ensures.path c.as_slice.ensures in
    (Answers.revoked c.args.claims c.args.scope comes taken gone refl refl, refl)

pub returns-then-is_full-clause-answers : goal.returns-then-is_full-clause-answers
returns-then-is_full-clause-answers c = λ text comes.
    let taken = allowed c.self.inside.rules c.args.self.now.rules c.args.scope c.allows.result c.allows.ensures (ap (λ desk. desk.rules) c.self.view_is) c.if-not-allows.false in
    let tree = ap (λ on. on.tree) c.on.view_is ∙ ap (λ offer. offer.on.tree) c.offer.view_is in
    let stands = judged_revoked c.on.inside.tree.now c.args.offer.now.on.tree c.in_ok-revocation.revocation c.args.self.now.rules.revoked c.as_slice.result.now c.args.claims.material.id
    c.is_there.result false c.is_there.ensures c.if-is_there.false tree c.in_ok-revocation.ensures.path c.as_slice.ensures in
    let on = ap (λ offer. offer.on) c.offer.view_is in
    let seen : IsFull c.args.self.now.rules.reserved c.as_slice-2.result.now (alive c.offer.inside.on.now c.args.self.now.table) = search rules in
    let many : IsFull c.args.self.now.rules.reserved c.args.claims.material.id (alive c.args.offer.now.on c.args.self.now.table) =
    coe 0 1 (i. IsFull c.args.self.now.rules.reserved (c.as_slice-2.ensures i) (alive (on i) c.args.self.now.table)) seen in
    (Answers.full c.args.claims c.args.scope (record { comes = comes; allowed = taken; unrevoked = stands }) many refl refl, refl)

pub returns-in_ok-answer_known-in-Some-clause-answers :
    goal.returns-in_ok-answer_known-in-Some-clause-answers
returns-in_ok-answer_known-in-Some-clause-answers c = λ text comes.
    let taken = allowed c.self.inside.rules c.args.self.now.rules c.args.scope c.allows.result c.allows.ensures (ap (λ desk. desk.rules) c.self.view_is) c.if-not-allows.false in
    let tree = ap (λ on. on.tree) c.on.view_is ∙ ap (λ offer. offer.on.tree) c.offer.view_is in
    let stands = judged_revoked c.on.inside.tree.now c.args.offer.now.on.tree c.in_ok-revocation.revocation c.args.self.now.rules.revoked c.as_slice.result.now c.args.claims.material.id
    c.is_there.result false c.is_there.ensures c.if-is_there.false tree c.in_ok-revocation.ensures.path c.as_slice.ensures in
    let own = c.deref.ensures.value ∙ ap (λ desk. desk.table) c.self.view_is in
    let on = ap (λ offer. offer.on) c.offer.view_is in
    let seen : ¬ IsFull c.args.self.now.rules.reserved c.as_slice-2.result.now (alive c.offer.inside.on.now c.args.self.now.table) = search rules in
    let room : ¬ IsFull c.args.self.now.rules.reserved c.args.claims.material.id (alive c.args.offer.now.on c.args.self.now.table) =
    coe 0 1 (i. ¬ IsFull c.args.self.now.rules.reserved (c.as_slice-2.ensures i) (alive (on i) c.args.self.now.table)) seen in
    let its = sym (c.known.ensures ∙ (λ i. known (c.as_slice-3.ensures i) (c.offer.view_is i).nonce1 (c.offer.view_is i).client_id (own i))) ∙ c.in-Some.is in
    known_answers c.args.self.now c.args.offer.now text c.args.claims c.args.scope c.in-Some.made c.in_ok-answer_known-in-Some.field-0
    (record { granted = record { comes = comes; allowed = taken; unrevoked = stands }; room = room }) its c.in_ok-answer_known-in-Some.ensures

pub returns-in_ok-answer-in-None-clause-answers : goal.returns-in_ok-answer-in-None-clause-answers
returns-in_ok-answer-in-None-clause-answers c = λ text comes.
    let taken = allowed c.self.inside.rules c.args.self.now.rules c.args.scope c.allows.result c.allows.ensures (ap (λ desk. desk.rules) c.self.view_is) c.if-not-allows.false in
    let tree = ap (λ on. on.tree) c.on.view_is ∙ ap (λ offer. offer.on.tree) c.offer.view_is in
    let stands = judged_revoked c.on.inside.tree.now c.args.offer.now.on.tree c.in_ok-revocation.revocation c.args.self.now.rules.revoked c.as_slice.result.now c.args.claims.material.id
    c.is_there.result false c.is_there.ensures c.if-is_there.false tree c.in_ok-revocation.ensures.path c.as_slice.ensures in
    let own = c.deref.ensures.value ∙ ap (λ desk. desk.table) c.self.view_is in
    let on = ap (λ offer. offer.on) c.offer.view_is in
    let seen : ¬ IsFull c.args.self.now.rules.reserved c.as_slice-2.result.now (alive c.offer.inside.on.now c.args.self.now.table) = search rules in
    let room : ¬ IsFull c.args.self.now.rules.reserved c.args.claims.material.id (alive c.args.offer.now.on c.args.self.now.table) =
    coe 0 1 (i. ¬ IsFull c.args.self.now.rules.reserved (c.as_slice-2.ensures i) (alive (on i) c.args.self.now.table)) seen in
    let none = sym (c.known.ensures ∙ (λ i. known (c.as_slice-3.ensures i) (c.offer.view_is i).nonce1 (c.offer.view_is i).client_id (own i))) ∙ c.in-None.is in (
      Answers.agreed c.args.claims c.args.scope c.in_ok-answer-in-None.answer (record { granted = record { comes = comes; allowed = taken; unrevoked = stands }; room = room }) none
          c.in_ok-answer-in-None.ensures.agreed refl,
      ap Some c.in_ok-answer-in-None.ensures.holder,
    )

pub returns-then-not-allows-clause-answers : goal.returns-then-not-allows-clause-answers
returns-then-not-allows-clause-answers c = λ text comes.
    let below = not_allowed c.self.inside.rules c.args.self.now.rules c.args.scope c.allows.result c.allows.ensures (ap (λ desk. desk.rules) c.self.view_is) c.if-not-allows.true in
    (Answers.disallowed c.args.claims c.args.scope comes below refl refl, refl)

pub is_full-requires : goal.is_full-requires
is_full-requires c = coe 1 0 (i. AreMarked (c.offer.view_is i).on.tree c.args.self.now.table c.args.marks.now) c.requires.marked
