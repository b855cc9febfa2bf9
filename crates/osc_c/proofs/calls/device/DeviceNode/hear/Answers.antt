-- What it hears comes from the peer that the caller names.
use Rattle.std.proofs.Common.{inl, inr, refl, ap, subst}
use Rattle.osc_model.specs.declared.node.Draw.{Draw}
use Rattle.osc_model.specs.declared.node.Peer.{Peer}
use Rattle.osc_device.specs.{HasHeard, ServerTakesMemory}
use Rattle.osc_device.specs.State.{State}
use Rattle.osc_server.specs.{core}
use Rattle.osc_c.specs.Plain.{draw_of, peer_of}
use Rattle.osc_c.specs.declared.calls.device.DeviceNode.{DeviceNode}
use Rattle.osc_c.proofs.calls.device.DeviceNode.hear.Goals as goal

pub returns-in-Ok : goal.returns-in-Ok
returns-in-Ok g c =
    let from_there =
    subst (λ (from : Peer). HasHeard g.A.Ciphers.is_sealing c.args.self.now.device
    (record { at = c.args.now; from = from; draw = c.draw-draw.result; what = c.args.bytes.now }) c.in-Ok.step c.on_datagram.new.self)
    c.peer.ensures.peer c.in-Ok.ensures.0 in
    let heard =
    subst (λ (draw : Draw). HasHeard g.A.Ciphers.is_sealing c.args.self.now.device
    (record { at = c.args.now; from = peer_of c.args.from.now; draw = draw; what = c.args.bytes.now }) c.in-Ok.step c.on_datagram.new.self)
    c.draw-draw.ensures from_there in
    inl (
      refl,
      record {
        step = c.in-Ok.step;
        is_step = heard.made;
        own = heard.own;
        last = c.of.ensures;
        run = heard.run;
        change = c.one_path_changes.ensures (core c.args.self.now.device.server) (core c.on_datagram.new.self.server) c.args.now c.in-Ok.step.notes heard.made.kind;
      },
    )

pub returns-in-Err : goal.returns-in-Err
returns-in-Err g c = inr (
  (
    refl,
    ap (λ (device : State). let node : DeviceNode = record { device = device; last = c.args.self.now.last } in node) c.in-Err.ensures.1.0,
  ),
  subst (λ (from : Peer). ServerTakesMemory c.args.self.now.device.server
      (record { at = c.args.now; from = from; draw = draw_of c.args.draw.now; what = c.args.bytes.now }))
      c.peer.ensures.peer c.in-Err.ensures.1.1,
)
