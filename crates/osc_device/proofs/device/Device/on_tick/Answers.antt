use Rattle.std.proofs.Common.{◌∙◌, ap, refl, sym, subst}
use Rattle.osc_client.specs.State.{State as Client}
use Rattle.osc_client.specs.{IsStep}
use Rattle.osc_message.specs.{after_tick}
use Rattle.osc_model.specs.declared.node.Draw.{Draw}
use Rattle.osc_model.specs.declared.step.Step.{Step}
use Rattle.osc_run.specs.{Due}
use Rattle.osc_server.specs.State.{State as Server}
use Rattle.osc_device.specs.{Carries}
use Rattle.osc_device.proofs.Carried.{ticked_straight}
use Rattle.osc_device.proofs.Going.{device}
use Rattle.osc_device.proofs.device.Device.on_tick.Goals as goal

pub returns : goal.returns
returns g c =
    let own = ap (λ d. d.own) c.self.view_is in
    let server = ap (λ d. d.server) c.self.view_is in
    let after : Server → Server = λ s. record s { endpoint = after_tick c.args.now s.endpoint } in
    let gone = c.on_tick-let_go.ensures.ticked.kept ∙ ap after server in
    let is : (draw : Draw) → IsStep g.A.Ciphers.is_sealing c.self.inside.own (Due c.args.now draw) c.on_tick-begun.result c.on_tick-begun.new.self =
    λ draw. record { makes = c.on_tick-begun.ensures.ticked; kind = c.on_tick-begun.ensures.kind } in
    let begun : (draw : Draw) → IsStep g.A.Ciphers.is_sealing c.args.self.now.own (Due c.args.now draw) c.carry.result.begun c.on_tick-begun.new.self =
    λ draw. subst (λ (begun : Step). IsStep g.A.Ciphers.is_sealing c.args.self.now.own (Due c.args.now draw) begun c.on_tick-begun.new.self) (sym c.carry.ensures.begun)
    (subst (λ (old : Client). IsStep g.A.Ciphers.is_sealing old (Due c.args.now draw) c.on_tick-begun.result c.on_tick-begun.new.self) own (is draw)) in
    let carries = subst (λ (old : Server). Carries g.A.Ciphers.is_sealing (device old c.on_tick-begun.new.self) c.args.now c.args.server_draw.now c.carry.result c.carry.new.self)
    gone c.carry.ensures.carries in
    let between = device (after c.args.self.now.server) c.on_tick-begun.new.self in record {
      ticked = c.on_tick-begun.new.self;
      begun = begun;
      carries = carries;
      run = c.runs_go_on.ensures c.args.self.now between c.carry.new.self c.args.now c.args.server_draw.now c.carry.result (begun c.args.server_draw.now).kind refl carries;
      entry = c.runs_keep_their_promises.ensures.entered c.args.self.now between c.carry.new.self c.args.now c.args.server_draw.now c.carry.result
          (begun c.args.server_draw.now).kind refl carries;
    }

pub invariant_of-self : goal.invariant_of-self
invariant_of-self g c =
    ticked_straight c.self.inside.own c.args.now c.on_tick-begun.result c.on_tick-begun.new.self c.on_tick-begun.ensures.ticked c.self.invariant
