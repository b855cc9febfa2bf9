use Rattle.osc_device.proofs.calls.DeviceCalls.allow.Goals as goal

pub returns : goal.returns
returns g c = (c.rule.result, c.round_of.ensures, c.rule.ensures)
