use Rattle.std.proofs.Common.{◌∙◌, ◌+◌, arith}
use Rattle.osc_words.proofs.RequestLines.{bad_at, bad_is, next_at}
use Rattle.osc_words.proofs.request_lines.read_lines.Goals as goal

pub returns-in_default-clause-bad : goal.returns-in_default-clause-bad
returns-in_default-clause-bad c = λ n e.
    let nothing = rw c.in_default.is at c.in_ok-request.ensures in
    bad_at c.args.lines.now c.loop-line.line-index _ c.loop-line.said.items n c.loop-line-test.true nothing (bad_is (c.len.result + 1) n e ∙ omega (arith, c.len.ensures, c.loop-line.said.ok.0)) c.loop-line.invariant

pub loop-line-preserved : goal.loop-line-preserved
loop-line-preserved c =
    let says = rw c.in-Some.is at c.in_ok-request.ensures in
    next_at c.args.lines.now c.loop-line.line-index _ c.loop-line.said.items c.push.new.self.items c.in-Some.request c.loop-line-test.true says c.in_ok-push.ensures.items c.loop-line.invariant
