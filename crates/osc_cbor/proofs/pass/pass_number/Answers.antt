use Rattle.std.proofs.Common.{◌≡◌, ◌∷◌, ◌++◌, ◌<◌, ℕ, suc, List, Ok, sym, ap, subst, ◌∙◌, arith}
use Rattle.osc_cbor.specs.{item_at}
use Rattle.osc_cbor.proofs.Steps.{AreBytes}
use Rattle.osc_cbor.proofs.NumberLaws.{inline_number, byte_number}
use Rattle.osc_cbor.proofs.pass.pass_number.Goals as goal

pub returns-in-Ok-clause-passed : goal.returns-in-Ok-clause-passed
returns-in-Ok-clause-passed c = λ left.
    let (d, read, same) = inline_number left c.args.first c.args.rest.now (omega (arith, c.if-first-ge64.false)) c.if-first-lt24.true in
    (d, read, c.in-Ok.ensures.ok ∙ ap (λ (x : List ℕ). c.args.spelled.now.items ++ x) (sym same))

pub returns-in-Ok-try_extend_from_slice-clause-passed :
    goal.returns-in-Ok-try_extend_from_slice-clause-passed
returns-in-Ok-try_extend_from_slice-clause-passed c = λ left.
    let whole : c.args.rest.now ≡ c.in_ok-argument.argument.now ∷ c.in_ok-argument.after.now = c.in_ok-argument.ensures.cases.0 in
    let fits : c.in_ok-argument.argument.now < 256 = subst AreBytes whole (λ i. omega (arith, c.type_inv.rest i)) 0 in
    let (d, read, same) = byte_number left c.args.first c.in_ok-argument.argument.now c.in_ok-argument.after.now (omega (arith, c.if-first-ge64.false)) (omega (arith, c.if-first-lt24.false, c.if-first-gt24.false)) (omega (arith, c.if-argument-lt24.false)) fits in
    (d, subst (λ (x : List ℕ). item_at (suc left) (c.args.first ∷ x) ≡ Ok (d, c.in_ok-argument.after.now)) (sym whole) read, c.in-Ok-try_extend_from_slice.ensures.ok ∙ ap (λ (x : List ℕ). c.args.spelled.now.items ++ x) (sym same))
