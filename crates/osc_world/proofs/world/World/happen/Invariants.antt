use Rattle.std.proofs.Common.{take}
use Rattle.osc_world.specs.{Happen}
use Rattle.osc_world.proofs.world.World.happen.Given as goal

abbrev pub invariant-loop-event : goal.invariant-loop-event
invariant-loop-event g l = Happen g.A.Ciphers.is_sealing g.A.Ciphers.TAG l.fn.self (take l.event-index l.fn.events) l.self
