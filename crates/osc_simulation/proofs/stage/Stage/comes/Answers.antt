use Rattle.std.proofs.Common.{refl, subst}
use Rattle.std.proofs.lemmas.Result.{IfOk-weaker}
use Rattle.osc_model.specs.declared.node.Draw.{Draw}
use Rattle.osc_world.specs.{Happens}
use Rattle.osc_world.specs.declared.event.Event.{Event}
use Rattle.osc_simulation.specs.{is_sealing, tag_of}
use Rattle.osc_simulation.proofs.stage.Stage.comes.Goals as goal

pub returns : goal.returns
returns c =
    let old = c.args.self.now in
    let new = c.step-happened.new.self in
    let event : Draw → Event = λ draw. record { moment = old.moment; draw = draw; what = c.args.what } in
    IfOk-weaker c.step-happened.result _ _ (λ _ happens. (new, subst (λ draw. Happens is_sealing tag_of old.world (event draw) new) c.draw.ensures happens, refl)) c.step-happened.ensures.happens
