use Rattle.std.proofs.Common.{arith}
use Rattle.osc_client.specs.{IsLawfulClient}
use Rattle.osc_client.specs.State.{State as Client}
use Rattle.osc_world.specs.declared.nodes.Placed.{Placed}
use Rattle.osc_world.proofs.Looking.{all_looked_at, one_further}
use Rattle.osc_world.proofs.nodes.are_lawful_clients.Goals as goal

pub loop-placed-init : goal.loop-placed-init
loop-placed-init c = λ number placed below there. absurd (omega (arith, below))

pub loop-placed-preserved : goal.loop-placed-preserved
loop-placed-preserved c =
    one_further (λ (placed : Placed Client). IsLawfulClient placed.node) c.args.clients.now c.loop-placed.placed-index c.placed-item.result c.loop-placed-test.true c.placed-item.is
    c.has_lawful_parts.ensures c.loop-placed.invariant

pub returns : goal.returns
returns c = all_looked_at (λ (placed : Placed Client). IsLawfulClient placed.node) c.args.clients.now c.loop-placed.placed-index c.loop-placed-test.false c.loop-placed.invariant
