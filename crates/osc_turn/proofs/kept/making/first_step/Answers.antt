use Rattle.std.proofs.Common.{rules}
use Rattle.osc_turn.specs.{running}
use Rattle.osc_turn.proofs.kept.MakingLemmas.{makes_first}
use Rattle.osc_turn.proofs.kept.making.first_step.Goals as goal

pub returns-in-Ok-clause-made : goal.returns-in-Ok-clause-made
returns-in-Ok-clause-made g c =
    let done = c.in-Ok.ensures.done in
    makes_first g.N.Node.acts g.N.Node.is_step c.args.now (running c.args.node.now c.args.pace.now.busy_since c.args.supply.now)
    (running c.paced_step.new.node c.paced_step.new.pace.busy_since c.draw-draw.new.self) done.0 c.in-Ok.stepped
    (g.P.Port.received c.args.port.now) (g.P.Port.received c.paced_step.new.port) c.draw-draw.result done.1 done.2 (search rules) done.3 c.in-Ok.ensures.pace
