use Rattle.std.proofs.Common.{arith}
use Rattle.osc_programs.proofs.Holdings.{all_counted}
use Rattle.osc_programs.proofs.holding.contexts_of.Goals as goal

pub returns : goal.returns
returns c =
    all_counted c.loop-id.count c.loop-id.id c.args.desk.now.table c.loop-id.invariant.counted (omega (arith, c.loop-id.invariant.within, c.loop-id-test.false))
