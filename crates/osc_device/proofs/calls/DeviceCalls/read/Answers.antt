use Rattle.osc_device.proofs.calls.DeviceCalls.read.Goals as goal

pub returns : goal.returns
returns g c =
    let asked = rw c.own_request-request.ensures.request at c.ask.ensures in
    rw c.nothing.ensures at asked
