-- At the moment of these milliseconds.
use Rattle.std.proofs.Common.{inl}
use Rattle.osc_c.proofs.calls.device.DeviceNode.open.Goals as goal

pub returns-in-Ok-clause-opens : goal.returns-in-Ok-clause-opens
returns-in-Ok-clause-opens g c = inl (c.in-Ok.now, c.in-Ok.ensures.ok, c.open_at.ensures.opens)
