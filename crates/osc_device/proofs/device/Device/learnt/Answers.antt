use Rattle.std.proofs.Common.{ap}
use Rattle.osc_device.proofs.Carried.{comes_back, one_only, still_straight}
use Rattle.osc_device.proofs.device.Device.learnt.Goals as goal

pub invariant_of-self : goal.invariant_of-self
invariant_of-self g c =
    still_straight g.A.Ciphers.is_sealing c.self.inside.own c.on_datagram.new.self c.args.now c.as_slice-in-len1.result.now c.on_datagram.result
    c.on_datagram.ensures.heard c.on_datagram.ensures.kind c.on_datagram.ensures.err c.self.invariant

pub returns-in-len1-clause-learnt : goal.returns-in-len1-clause-learnt
returns-in-len1-clause-learnt g c =
    comes_back g.A.Ciphers.is_sealing c.self.inside.own c.args.self.now.own c.on_datagram.new.self c.args.now c.args.served.now c.in-Some.step
    c.datagram-item.result c.as_slice-in-len1.result.now c.on_datagram.result c.ok.result
    (ap (λ d. d.own) c.self.view_is) c.in-Some.is
    (one_only c.as_slice.result.now c.in-Some.step.out c.datagram-item.result c.as_slice.ensures c.in-len1.len_at_least c.in-len1.len_below c.datagram-item.is)
    c.as_slice-in-len1.ensures c.on_datagram.ensures.heard c.on_datagram.ensures.kind c.on_datagram.ensures.err c.on_datagram.ensures.needs_memory c.ok.ensures.value
