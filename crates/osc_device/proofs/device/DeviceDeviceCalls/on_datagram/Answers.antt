use Rattle.osc_device.proofs.Going.{heard}
use Rattle.osc_device.proofs.device.DeviceDeviceCalls.on_datagram.Goals as goal

pub returns : goal.returns
returns g c =
    heard g.A.Ciphers.is_sealing c.runs_go_on_alone.ensures.heard c.args.self.now c.self.inside.server c.on_datagram.new.self c.self.inside.own
    (record { at = c.args.now; from = c.args.from; draw = c.args.draw.now; what = c.args.bytes.now }) c.on_datagram.result
    c.self.view_is c.on_datagram.ensures.heard c.on_datagram.ensures.kind c.on_datagram.ensures.err c.on_datagram.ensures.needs_memory
