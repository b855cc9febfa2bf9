use Rattle.std.proofs.Common.{◌≡◌, ◌++◌, drop, map}
use Rattle.osc_programs.specs.Sockets as spec
use Rattle.osc_programs.specs.declared.socket.BoundSocket.{BoundSocket}
use Rattle.osc_programs.proofs.udp.bound.Given as goal

-- the families of the sockets so far, and those of the addresses that are left
abbrev pub invariant-loop-one : goal.invariant-loop-one
invariant-loop-one g l = map (λ (socket : BoundSocket). socket.family) l.sockets.items ++ map spec.family_of (drop l.one-index l.at) ≡ map spec.family_of l.at
