use Rattle.std.proofs.Common.{subst}
use Rattle.osc_world.specs.{AreLawfulClients, StandApart, State}
use Rattle.osc_world.proofs.world.World.is_lawful.Goals as goal

pub returns-clause-clients : goal.returns-clause-clients
returns-clause-clients c = subst (λ (w : State). AreLawfulClients w.nodes.clients) c.self.view_is c.has_lawful_clients.ensures

pub returns-clause-apart : goal.returns-clause-apart
returns-clause-apart c = subst (λ (w : State). StandApart w.nodes) c.self.view_is c.self.invariant.1
