use Rattle.std.proofs.Common.{◌≡◌, Some, IfOk, sym, subst}
use Rattle.osc_token.specs.Inner.Opening.{HoldsText}
use Rattle.osc_token.specs.{token_note}
use Rattle.osc_token.proofs.OpeningLemmas.{weaker, same_some, not_both, token_of, object_of, holds_text}
use Rattle.osc_token.proofs.opening.open_token.Goals as goal

pub returns-in-Some-clause-opened : goal.returns-in-Some-clause-opened
returns-in-Some-clause-opened g c =
    let found = rw c.in-Some.is at c.in_ok-object.ensures.found in
    let object = c.in-Some.object in
    weaker _ _ c.open_object.result
    (λ note opened. (
      object.protected,
      opened.0,
      opened.1,
      token_of g.A.Aead.is_sealing c.args.key.now c.args.bytes.now found.0 object opened.0 opened.1 found.1 found.2 opened.2,
      opened.3,
    ))
    c.open_object.ensures.opened

pub returns-in-Some-clause-only : goal.returns-in-Some-clause-only
returns-in-Some-clause-only g c = λ protected iv text t.
    let key = c.args.key.now in
    let opened = c.open_object.result in
    let own = object_of g.A.Aead.is_sealing key c.args.bytes.now protected iv text t in
    let is : c.in-Some.object ≡ own = same_some _ _ _ c.in-Some.is (c.in_ok-object.ensures.only t.token own t.whole t.is_object) in
    let holds = subst (λ x. HoldsText g.A.Aead.is_sealing key x iv text) (sym is) (holds_text g.A.Aead.is_sealing key c.args.bytes.now protected iv text t) in
    subst (λ x. IfOk opened (λ found. found ≡ Some (token_note key x.protected iv text))) is (c.open_object.ensures.only iv text holds)

pub returns-in-None-clause-only : goal.returns-in-None-clause-only
returns-in-None-clause-only g c = λ protected iv text t.
    absurd (not_both _ _ (c.in_ok-object.ensures.only t.token _ t.whole t.is_object) c.in-None.is)
