use Rattle.std.proofs.Common.{length, ap, ◌∙◌, arith}
use Rattle.osc_protect.proofs.AadLemmas.{short_head_length}
use Rattle.osc_protect.proofs.aad.append_string.Goals as goal

pub unwrap-requires : goal.unwrap-requires
unwrap-requires c =
    let front = ap length c.head-head.ensures.spelled ∙ short_head_length 2 (length c.args.bytes.now) (omega arith) in
    let lent = ap length c.as_slice.ensures.value in
    c.try_extend_from_slice.ensures.variant.1 (omega (arith, front, lent))

pub unwrap-requires-2 : goal.unwrap-requires-2
unwrap-requires-2 c =
    let front = ap length c.head-head.ensures.spelled ∙ short_head_length 2 (length c.args.bytes.now) (omega arith) in
    let lent = ap length c.as_slice.ensures.value in
    let grown = rw c.unwrap.ensures at c.try_extend_from_slice.ensures.len in
    c.try_extend_from_slice-2.ensures.variant.1 (omega (arith, front, lent, grown))

pub returns-clause-length : goal.returns-clause-length
returns-clause-length c =
    let front = ap length c.head-head.ensures.spelled ∙ short_head_length 2 (length c.args.bytes.now) (omega arith) in
    let lent = ap length c.as_slice.ensures.value in
    let grown = rw c.unwrap.ensures at c.try_extend_from_slice.ensures.len in
    let again = rw c.unwrap-2.ensures at c.try_extend_from_slice-2.ensures.len in
    omega (arith, front, lent, grown, again)
