use Rattle.std.proofs.Common.{arith}
use Rattle.osc_proxy.specs.{IsLawfulProxy}
use Rattle.osc_proxy.specs.State.{State as Proxy}
use Rattle.osc_world.specs.declared.nodes.Placed.{Placed}
use Rattle.osc_world.proofs.Looking.{all_looked_at, one_further}
use Rattle.osc_world.proofs.nodes.are_lawful_proxies.Goals as goal

pub loop-placed-init : goal.loop-placed-init
loop-placed-init c = λ number placed below there. absurd (omega (arith, below))

pub loop-placed-preserved : goal.loop-placed-preserved
loop-placed-preserved c =
    one_further (λ (placed : Placed Proxy). IsLawfulProxy placed.node) c.args.proxies.now c.loop-placed.placed-index c.placed-item.result c.loop-placed-test.true c.placed-item.is
    (record { own_tokens = c.open_exchanges-open.ensures.own_tokens }) c.loop-placed.invariant

pub returns : goal.returns
returns c = all_looked_at (λ (placed : Placed Proxy). IsLawfulProxy placed.node) c.args.proxies.now c.loop-placed.placed-index c.loop-placed-test.false c.loop-placed.invariant
