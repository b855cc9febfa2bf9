use Rattle.osc_proxy.specs.{IsLawfulProxy}
use Rattle.osc_proxy.specs.State.{State as Proxy}
use Rattle.osc_world.specs.declared.nodes.Placed.{Placed}
use Rattle.osc_world.proofs.Looking.{AllBelow}
use Rattle.osc_world.proofs.nodes.are_lawful_proxies.Given as goal

-- those that were looked at
abbrev pub invariant-loop-placed : goal.invariant-loop-placed
invariant-loop-placed l = AllBelow (λ (placed : Placed Proxy). IsLawfulProxy placed.node) l.placed-index l.proxies
