use Rattle.std.proofs.Common.{ap, ◌∙◌, arith}
use Rattle.osc_world.specs.{first_waiting}
use Rattle.osc_world.proofs.Waiting.{settled_moves_on}
use Rattle.osc_world.proofs.log.EventLog.settle.Goals as goal

pub first_from-self-inside-requires : goal.first_from-self-inside-requires
first_from-self-inside-requires c =
    omega
    (arith, c.self.invariant, settled_moves_on c.self.inside.sent.items c.args.number, ap first_waiting (c.deref.ensures.value ∙ c.settle.ensures.items))
