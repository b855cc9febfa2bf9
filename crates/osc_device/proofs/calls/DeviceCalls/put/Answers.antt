use Rattle.osc_device.proofs.calls.DeviceCalls.put.Goals as goal

pub returns : goal.returns
returns g c = rw c.own_request-request.ensures.request at c.ask.ensures
