use Rattle.std.proofs.Common.{None, [], ◌∷◌, map, take}
use Rattle.osc_lab.specs.Inner.Telling.{AreBound}
use Rattle.osc_lab.proofs.ports.bind_each.Given as goal

-- the nodes so far have their ports
abbrev pub invariant-loop-placed : goal.invariant-loop-placed
invariant-loop-placed g l =
    AreBound (g.R.Sockets.opened l.runtime (l.place ∷ []) None) g.R.Socket.SocketPort.listens (map (λ placed. placed.at) (take l.placed-index l.all)) l.initial.addresses l.addresses l.ports.items
