use Rattle.std.proofs.Common.{length, ap, arith}
use Rattle.osc_model.specs.{algorithm_number}
use Rattle.osc_cbor.specs.{head}
use Rattle.osc_context.specs.{algorithm_of}
use Rattle.osc_protect.proofs.AadLemmas.{algorithm_short}
use Rattle.osc_protect.proofs.aad.append_algorithm.Goals as goal

pub unwrap-requires : goal.unwrap-requires
unwrap-requires c =
    let short = algorithm_short (algorithm_of c.args.name.now) in
    let spelled = ap length c.head-head.ensures.spelled in
    let number = ap (λ n. length (head 0 n)) c.number.ensures in
    let named = ap (λ a. length (head 0 (algorithm_number a))) c.algorithm_of.ensures in
    let lent = ap length c.as_slice.ensures.value in
    c.try_extend_from_slice.ensures.variant.1 (omega (arith, short, spelled, number, named, lent))

pub returns-clause-length : goal.returns-clause-length
returns-clause-length c =
    let short = algorithm_short (algorithm_of c.args.name.now) in
    let spelled = ap length c.head-head.ensures.spelled in
    let number = ap (λ n. length (head 0 n)) c.number.ensures in
    let named = ap (λ a. length (head 0 (algorithm_number a))) c.algorithm_of.ensures in
    let lent = ap length c.as_slice.ensures.value in
    let grown = rw c.unwrap.ensures at c.try_extend_from_slice.ensures.len in
    omega (arith, short, spelled, number, named, lent, grown)
