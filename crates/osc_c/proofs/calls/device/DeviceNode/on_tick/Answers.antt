-- At the moment of these milliseconds.
use Rattle.std.proofs.Common.{inl}
use Rattle.osc_c.proofs.calls.device.DeviceNode.on_tick.Goals as goal

pub returns-in-Ok : goal.returns-in-Ok
returns-in-Ok g c = inl (c.in-Ok.now, c.in-Ok.ensures.ok, (c.tick.result, c.of_tick.ensures, c.tick.ensures))
