use Rattle.std.proofs.Common.{subst}
use Rattle.osc_world.specs.{StandApart, State}
use Rattle.osc_world.proofs.world.World.client.Goals as goal

pub returns-clause-apart : goal.returns-clause-apart
returns-clause-apart c = subst (λ (w : State). StandApart w.nodes) c.self.view_is c.self.invariant.1
