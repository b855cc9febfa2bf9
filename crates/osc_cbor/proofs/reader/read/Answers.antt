use Rattle.std.proofs.Common.{refl, sym, subst, ◌∙◌, arith}
use Rattle.std.proofs.lemmas.Result.{err_from_is_err_and}
use Rattle.osc_cbor.specs.{Fails, Refuses, view}
use Rattle.osc_cbor.proofs.AnyLaws.{same_reading}
use Rattle.osc_cbor.proofs.ReadLaws.{rest_within, found_begins, found_only, only_memory, found_first, same_err, never_memory}
use Rattle.osc_cbor.proofs.RefuseLaws.{item_refuses}
use Rattle.osc_cbor.proofs.ExtentLaws.{never_refused, one_fault}
use Rattle.osc_cbor.proofs.reader.read.Goals as goal

-- ---- no item is there

pub returns-in_err-behind_first-clause-only : goal.returns-in_err-behind_first-clause-only
returns-in_err-behind_first-clause-only c d front rest spelled shallow whole =
    absurd (never_refused c.args.bytes.now c.in_err-behind_first.field-0.0 c.in_err-behind_first.ensures d front rest spelled shallow whole)

pub returns-in_err-behind_first-clause-fault : goal.returns-in_err-behind_first-clause-fault
returns-in_err-behind_first-clause-fault c fault other =
    let p = err_from_is_err_and c.from_residual.result c.from_residual.ensures.1 in (
      λ is. subst (Fails 9 c.args.bytes.now) (same_err (sym p.2) (sym p.1 ∙ is)) (item_refuses 9 c.args.bytes.now c.in_err-behind_first.field-0.0 (λ i. omega (arith, c.type_inv.bytes i)) c.in_err-behind_first.ensures),
      λ fails. rw (p.1, p.2, one_fault c.args.bytes.now c.in_err-behind_first.field-0.0 fault c.in_err-behind_first.ensures fails) refl,
    )

pub returns-in_err-behind_first-clause-memory : goal.returns-in_err-behind_first-clause-memory
returns-in_err-behind_first-clause-memory c is =
    let p = err_from_is_err_and c.from_residual.result c.from_residual.ensures.1 in
    let fails = item_refuses 9 c.args.bytes.now c.in_err-behind_first.field-0.0 (λ i. omega (arith, c.type_inv.bytes i)) c.in_err-behind_first.ensures in
    absurd (never_memory 9 c.args.bytes.now (subst (Fails 9 c.args.bytes.now) (same_err (sym p.2) (sym p.1 ∙ is)) fails))

-- ---- one does, and memory runs out

pub returns-in_err-item-clause-only : goal.returns-in_err-item-clause-only
returns-in_err-item-clause-only c d front rest spelled shallow whole =
    let p = err_from_is_err_and c.from_residual-in_err-item.result c.from_residual-in_err-item.ensures.1 in
    rw (p.1, p.2) (only_memory c.args.bytes.now c.in_err-item.field-0.0 (subst (Refuses c.in_err-item.field-0.0) (same_reading 9 c.args.bytes.now _ c.in_ok-behind_first.ensures.1) c.in_err-item.ensures) c.in_ok-behind_first.ensures.0 _ c.in_ok-behind_first.ensures.1)

pub returns-in_err-item-clause-fault : goal.returns-in_err-item-clause-fault
returns-in_err-item-clause-fault c fault other =
    let p = err_from_is_err_and c.from_residual-in_err-item.result c.from_residual-in_err-item.ensures.1 in (
      λ is. absurd (other (sym (same_err (sym p.2) (sym p.1 ∙ is)) ∙ only_memory c.args.bytes.now c.in_err-item.field-0.0 (subst (Refuses c.in_err-item.field-0.0) (same_reading 9 c.args.bytes.now _ c.in_ok-behind_first.ensures.1) c.in_err-item.ensures) c.in_ok-behind_first.ensures.0 _ c.in_ok-behind_first.ensures.1)),
      λ fails. absurd (found_first c.args.bytes.now c.in_ok-behind_first.ensures.0 _ c.in_ok-behind_first.ensures.1 fault fails),
    )

pub returns-in_err-item-clause-memory : goal.returns-in_err-item-clause-memory
returns-in_err-item-clause-memory c is =
    (c.in_ok-behind_first.ensures.0, _, found_begins c.args.bytes.now c.in_ok-behind_first.ensures.0 _ (λ i. omega (arith, c.type_inv.bytes i)) c.in_ok-behind_first.ensures.1)

-- ---- it is read

pub overflow_sub-result : goal.overflow_sub-result
overflow_sub-result c = rest_within c.args.bytes.now (view c.in_ok-item.item) c.in_ok-item.rest.now (λ i. omega (arith, c.type_inv.bytes i)) (sym (same_reading 9 c.args.bytes.now _ c.in_ok-behind_first.ensures.1) ∙ c.in_ok-item.ensures)

pub returns-clause-found : goal.returns-clause-found
returns-clause-found c = found_begins c.args.bytes.now (view c.in_ok-item.item) c.in_ok-item.rest.now (λ i. omega (arith, c.type_inv.bytes i)) (sym (same_reading 9 c.args.bytes.now _ c.in_ok-behind_first.ensures.1) ∙ c.in_ok-item.ensures)

pub returns-clause-only : goal.returns-clause-only
returns-clause-only c = found_only c.args.bytes.now (view c.in_ok-item.item) c.in_ok-item.rest.now (sym (same_reading 9 c.args.bytes.now _ c.in_ok-behind_first.ensures.1) ∙ c.in_ok-item.ensures)

pub returns-clause-fault : goal.returns-clause-fault
returns-clause-fault c fault other = (λ is. cc, λ fails. absurd (found_first c.args.bytes.now (view c.in_ok-item.item) c.in_ok-item.rest.now (sym (same_reading 9 c.args.bytes.now _ c.in_ok-behind_first.ensures.1) ∙ c.in_ok-item.ensures) fault fails))
