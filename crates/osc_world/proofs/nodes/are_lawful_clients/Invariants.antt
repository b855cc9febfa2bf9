use Rattle.osc_client.specs.{IsLawfulClient}
use Rattle.osc_client.specs.State.{State as Client}
use Rattle.osc_world.specs.declared.nodes.Placed.{Placed}
use Rattle.osc_world.proofs.Looking.{AllBelow}
use Rattle.osc_world.proofs.nodes.are_lawful_clients.Given as goal

-- those that were looked at
abbrev pub invariant-loop-placed : goal.invariant-loop-placed
invariant-loop-placed l = AllBelow (λ (placed : Placed Client). IsLawfulClient placed.node) l.placed-index l.clients
