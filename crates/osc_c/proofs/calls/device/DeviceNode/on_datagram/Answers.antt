-- At the moment of these milliseconds, from where datagrams come.
use Rattle.std.proofs.Common.{◌∙◌, Bool, inl, subst, sym}
use Rattle.osc_device.specs.{ServerTakesMemory}
use Rattle.osc_c.specs.{At, HeardAt, UnlessNowhere, GivenDatagram, came_at, draw_of, peer_of}
use Rattle.osc_c.proofs.calls.device.DeviceNode.on_datagram.Goals as goal

pub returns-in-Ok : goal.returns-in-Ok
returns-in-Ok g c =
    let given : GivenDatagram = record { ms = c.args.now; from = peer_of c.args.from.now; bytes = c.args.bytes.now } in
    let old = c.args.self.now in
    subst
    (λ (nowhere : Bool). UnlessNowhere nowhere old c.hear.result c.hear.new.self
    (At given.ms old c.hear.result c.hear.new.self (λ now. ServerTakesMemory old.device.server (came_at given now (draw_of c.args.draw.now))) (λ now. HeardAt g.A.Ciphers.is_sealing old (came_at given now (draw_of c.args.draw.now)) c.hear.new.self)))
    (sym (sym c.is_nowhere.ensures ∙ c.if-is_nowhere.false))
    (inl (c.in-Ok.now, c.in-Ok.ensures.ok, c.hear.ensures))
