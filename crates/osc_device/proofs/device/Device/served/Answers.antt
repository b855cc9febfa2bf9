use Rattle.std.proofs.Common.{ap}
use Rattle.osc_device.specs.{at_server}
use Rattle.osc_device.proofs.Carried.{one_only, reaches}
use Rattle.osc_device.proofs.device.Device.served.Goals as goal

pub returns-in-len1-clause-served : goal.returns-in-len1-clause-served
returns-in-len1-clause-served g c =
    reaches g.A.Ciphers.is_sealing c.self.inside.server c.args.self.now.server c.on_datagram.new.self (at_server c.args.now c.args.server_draw.now c.args.begun.now.out)
    c.datagram-item.result c.as_slice-in-len1.result.now c.on_datagram.result c.ok.result
    (ap (λ d. d.server) c.self.view_is)
    (one_only c.as_slice.result.now c.args.begun.now.out c.datagram-item.result c.as_slice.ensures c.in-len1.len_at_least c.in-len1.len_below c.datagram-item.is)
    c.as_slice-in-len1.ensures c.on_datagram.ensures.heard c.on_datagram.ensures.kind c.on_datagram.ensures.err c.on_datagram.ensures.needs_memory c.ok.ensures.value
