use Rattle.std.proofs.Common.{Ok, refl, sym, ap, subst, ◌∙◌, arith}
use Rattle.std.proofs.lemmas.Result.{err_from_is_err_and}
use Rattle.osc_cbor.specs.{Fails}
use Rattle.osc_cbor.proofs.ReadLaws.{rest_within, found_begins, found_only, found_first, same_err}
use Rattle.osc_cbor.proofs.RefuseLaws.{item_refuses}
use Rattle.osc_cbor.proofs.ExtentLaws.{never_refused, one_fault}
use Rattle.osc_cbor.proofs.extents.extent.Goals as goal

pub returns-in_err-rest-clause-only : goal.returns-in_err-rest-clause-only
returns-in_err-rest-clause-only c = λ d front rest spelled shallow whole.
    absurd (never_refused c.args.bytes.now c.in_err-rest.field-0.0 c.in_err-rest.ensures d front rest spelled shallow whole)

pub returns-in_err-rest-clause-fault : goal.returns-in_err-rest-clause-fault
returns-in_err-rest-clause-fault c = λ fault.
    let p = err_from_is_err_and c.from_residual.result c.from_residual.ensures.1 in (
      λ is. subst (Fails 9 c.args.bytes.now) (same_err (sym p.2) (sym p.1 ∙ is)) (item_refuses 9 c.args.bytes.now c.in_err-rest.field-0.0 (λ i. omega (arith, c.type_inv.bytes i)) c.in_err-rest.ensures),
      λ fails. rw (p.1, p.2, one_fault c.args.bytes.now c.in_err-rest.field-0.0 fault c.in_err-rest.ensures fails) refl,
    )

pub overflow_sub-result : goal.overflow_sub-result
overflow_sub-result c = rest_within c.args.bytes.now c.in_ok-rest.ensures.0 c.in_ok-rest.rest.now (λ i. omega (arith, c.type_inv.bytes i)) c.in_ok-rest.ensures.1

pub returns-clause-found : goal.returns-clause-found
returns-clause-found c = (c.in_ok-rest.ensures.0, found_begins c.args.bytes.now c.in_ok-rest.ensures.0 c.in_ok-rest.rest.now (λ i. omega (arith, c.type_inv.bytes i)) c.in_ok-rest.ensures.1)

pub returns-clause-only : goal.returns-clause-only
returns-clause-only c = λ d front rest spelled shallow whole.
    ap (λ n. Ok n) (found_only c.args.bytes.now c.in_ok-rest.ensures.0 c.in_ok-rest.rest.now c.in_ok-rest.ensures.1 d front rest spelled shallow whole).1

pub returns-clause-fault : goal.returns-clause-fault
returns-clause-fault c = λ fault. (λ is. cc, λ fails. absurd (found_first c.args.bytes.now c.in_ok-rest.ensures.0 c.in_ok-rest.rest.now c.in_ok-rest.ensures.1 fault fails))
