use Rattle.std.proofs.Common.{sym, subst, ◌∙◌, option_copied}
use Rattle.std.proofs.lemmas.Bool.{false≢true}
use Rattle.osc_cbor.specs.{map, pairs_of}
use Rattle.osc_cose.specs.{IsObject}
use Rattle.osc_cose.specs.Inner.Parts.{object_of_parts}
use Rattle.osc_cose.specs.declared.encrypt0.Encrypt0.{Encrypt0}
use Rattle.osc_cose.proofs.PartsLemmas.{protected_from_object, object_from_parts}
use Rattle.osc_cose.proofs.parsing.object_of.Goals as goal

pub returns-then-not-is_protected-clause-only : goal.returns-then-not-is_protected-clause-only
returns-then-not-is_protected-clause-only c = λ object o.
    let protected = protected_from_object c.args.item.now object _ _ _ (sym c.in-Some.ensures) o in
    absurd (false≢true (sym c.if-not-is_protected.true ∙ c.is_protected.ensures.1 protected))

pub returns-in_err-object_with-clause-memory : goal.returns-in_err-object_with-clause-memory
returns-in_err-object_with-clause-memory c = λ e.
    let parts = c.in-Some.parts in
    let object = object_of_parts parts.protected.now (option_copied c.in-Some-parameter.kid) (option_copied c.in-Some-parameter-2.iv) parts.ciphertext.now in (
      object,
      object_from_parts c.args.item.now object (map (pairs_of parts.unprotected)) (sym c.in-Some.ensures) (c.is_protected.ensures.0 c.if-not-is_protected.false)
          (sym c.labelled-kid.ensures.kid ∙ c.in-Some-parameter.ensures.found) (sym c.labelled-kid.ensures.iv ∙ c.in-Some-parameter-2.ensures.found),
    )

pub returns-clause-found : goal.returns-clause-found
returns-clause-found c =
    let parts = c.in-Some.parts in
    let object = object_of_parts parts.protected.now (option_copied c.in-Some-parameter.kid) (option_copied c.in-Some-parameter-2.iv) parts.ciphertext.now in
    subst (λ (x : Encrypt0). IsObject c.args.item.now x) (sym c.in_ok-object_with.ensures)
    (object_from_parts c.args.item.now object (map (pairs_of parts.unprotected)) (sym c.in-Some.ensures) (c.is_protected.ensures.0 c.if-not-is_protected.false)
    (sym c.labelled-kid.ensures.kid ∙ c.in-Some-parameter.ensures.found) (sym c.labelled-kid.ensures.iv ∙ c.in-Some-parameter-2.ensures.found))
