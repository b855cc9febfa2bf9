use Rattle.osc_world.proofs.Waiting.{found, passed, none_found}
use Rattle.osc_world.proofs.log.first_from.Goals as goal

pub returns-then-sent-next : goal.returns-then-sent-next
returns-then-sent-next c = found c.args.sent.now c.loop-next.next c.index-sent-next.result c.loop-next.invariant c.if-sent-next.true

pub loop-next-preserved : goal.loop-next-preserved
loop-next-preserved c = passed c.args.sent.now c.loop-next.next c.index-sent-next.result c.loop-next.invariant c.loop-next-test.true c.if-sent-next.false

pub returns : goal.returns
returns c = none_found c.args.sent.now c.loop-next.next c.loop-next.invariant c.loop-next-test.false
