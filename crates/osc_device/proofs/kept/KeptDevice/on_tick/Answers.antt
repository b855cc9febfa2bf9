use Rattle.std.proofs.Common.{rules, subst, sym, Option}
use Rattle.osc_turn.specs.Kept.{IsChangeOf}
use Rattle.osc_model.specs.declared.step.Entry.{Entry}
use Rattle.osc_device.specs.{HasTicked}
use Rattle.osc_device.specs.State.{State}
use Rattle.osc_device.proofs.Keeping.{is_ended, is_handed, is_withheld, reached_changes}
use Rattle.osc_device.proofs.kept.KeptDevice.on_tick.Goals as goal

pub returns-in_err-goes_on : goal.returns-in_err-goes_on
returns-in_err-goes_on g c =
    is_ended g.K.Keeping.keeps g.K.Keeping.may_hold (λ (old : State). HasTicked g.A.Ciphers.is_sealing old c.args.now c.args.server_draw.now) (λ (old : State). ⊥)
    g.met.K.Keeping.holds_first c.args.self.now c.from_residual.result c.from_residual.ensures.0 (search rules)

pub returns-in_err-keep : goal.returns-in_err-keep
returns-in_err-keep g c =
    let change = subst (λ (e : Option Entry). IsChangeOf e c.self.inside.device.server.tree c.on_tick-round.new.self.server.tree) (sym c.entry_of.ensures)
    (reached_changes c.one_path_changes.ensures g.A.Ciphers.is_sealing _ c.on_tick-round.new.self.server _ c.on_tick-round.result.served c.on_tick-round.ensures.carries.reaches) in
    is_withheld g.K.Keeping.keeps g.K.Keeping.may_hold (λ (old : State). HasTicked g.A.Ciphers.is_sealing old c.args.now c.args.server_draw.now) (λ (old : State). ⊥)
    _ c.args.self.now c.self.view_is c.on_tick-round.result c.on_tick-round.new.self c.keep.new.self c.keep.ensures.device c.on_tick-round.ensures
    (c.keep.ensures.crash c.self.inside.device.server.tree change)
    c.from_residual-in_err-keep.result c.from_residual-in_err-keep.ensures.0 (search rules) (search rules)

pub returns : goal.returns
returns g c =
    let change = subst (λ (e : Option Entry). IsChangeOf e c.self.inside.device.server.tree c.on_tick-round.new.self.server.tree) (sym c.entry_of.ensures)
    (reached_changes c.one_path_changes.ensures g.A.Ciphers.is_sealing _ c.on_tick-round.new.self.server _ c.on_tick-round.result.served c.on_tick-round.ensures.carries.reaches) in
    is_handed g.K.Keeping.keeps g.K.Keeping.may_hold (λ (old : State). HasTicked g.A.Ciphers.is_sealing old c.args.now c.args.server_draw.now) (λ (old : State). ⊥)
    _ c.args.self.now c.self.view_is c.on_tick-round.result c.on_tick-round.new.self c.keep.new.self c.keep.ensures.device c.on_tick-round.ensures
    (c.keep.ensures.crash c.self.inside.device.server.tree change)
    (search rules) (search rules) (c.in_ok-keep.ensures.kept c.self.inside.device.server.tree change)
