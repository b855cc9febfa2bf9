use Rattle.std.proofs.Common.{None, [], ◌∷◌}
use Rattle.osc_lab.proofs.Bound.{bound_all, bound_more, bound_none}
use Rattle.osc_lab.proofs.ports.bind_each.Goals as goal

pub loop-placed-init : goal.loop-placed-init
loop-placed-init g c = bound_none (g.R.Sockets.opened c.args.runtime.now (c.args.place ∷ []) None) g.R.Socket.SocketPort.listens c.args.addresses.now _ c.new-ports.ensures.items

pub loop-placed-preserved : goal.loop-placed-preserved
loop-placed-preserved g c =
    bound_more (g.R.Sockets.opened c.args.runtime.now (c.args.place ∷ []) None) g.R.Socket.SocketPort.listens c.args.all.now c.loop-placed.placed-index _ c.placed-item.result _ _ _ _ _ _ c.loop-placed-test.true
    c.placed-item.is c.loop-placed.invariant c.in_ok-bind_at.ensures.bound c.in_ok-push.ensures.pushed

pub returns-clause-bound : goal.returns-clause-bound
returns-clause-bound g c =
    bound_all (g.R.Sockets.opened c.args.runtime.now (c.args.place ∷ []) None) g.R.Socket.SocketPort.listens c.args.all.now c.loop-placed.placed-index _ _ _ c.loop-placed-test.false c.loop-placed.invariant
