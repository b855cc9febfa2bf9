use Rattle.std.proofs.Common.{◌%◌, [], arith}
use Rattle.osc_cbor.proofs.TokenLaws.{leaf_at}
use Rattle.osc_cbor.proofs.tokens.behind_leaf.Goals as goal

pub returns-then-first-lt64 : goal.returns-then-first-lt64
returns-then-first-lt64 c =
    leaf_at c.args.bytes.now c.in_ok-first.first.now c.in_ok-first.rest.now c.in_ok-after.field-0-0 [] c.in_ok-after.after.now c.in_ok-first.ensures.cases.0 (omega (arith, c.if-first-lt64.true)) c.in_ok-after.ensures

pub returns : goal.returns
returns c =
    leaf_at c.args.bytes.now c.in_ok-first.first.now c.in_ok-first.rest.now (c.in_ok-first.first.now % 32) c.in_ok-after-2.field-0-0.now c.in_ok-after-2.after.now c.in_ok-first.ensures.cases.0 (omega (arith, c.if-first-ge128.false)) c.in_ok-after-2.ensures
