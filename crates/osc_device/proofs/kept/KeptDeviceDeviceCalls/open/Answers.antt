use Rattle.std.proofs.Common.{◌≡◌, rules, subst, sym, None, Option}
use Rattle.osc_turn.specs.Kept.{IsChangeOf}
use Rattle.osc_model.specs.declared.step.Entry.{Entry}
use Rattle.osc_device.specs.{HasPosted}
use Rattle.osc_device.specs.State.{State}
use Rattle.osc_device.proofs.Keeping.{is_ended, is_handed, is_lacking, is_withheld, reached_changes}
use Rattle.osc_device.proofs.kept.KeptDeviceDeviceCalls.open.Goals as goal

pub returns-in_err-goes_on : goal.returns-in_err-goes_on
returns-in_err-goes_on g c =
    is_ended g.K.Keeping.keeps g.K.Keeping.may_hold (λ (old : State). HasPosted g.A.Ciphers.is_sealing old c.args.now c.args.draws) (λ (old : State). old.own.waiting ≡ None)
    g.met.K.Keeping.holds_first c.args.self.now c.from_residual.result c.from_residual.ensures.0 (search rules)

pub returns-in_err-round : goal.returns-in_err-round
returns-in_err-round g c =
    is_lacking g.K.Keeping.keeps g.K.Keeping.may_hold (λ (old : State). HasPosted g.A.Ciphers.is_sealing old c.args.now c.args.draws) (λ (old : State). old.own.waiting ≡ None)
    g.met.K.Keeping.holds_first c.args.self.now c.from_residual-in_err-round.result _ c.from_residual-in_err-round.ensures.0 (search rules) (search rules) (search rules)
    (search rules)

pub returns-in_err-keep : goal.returns-in_err-keep
returns-in_err-keep g c =
    let change = subst (λ (e : Option Entry). IsChangeOf e c.self.inside.device.server.tree c.open.new.self.server.tree) (sym c.entry_of.ensures)
    (reached_changes c.one_path_changes.ensures g.A.Ciphers.is_sealing _ c.open.new.self.server _ c.in_ok-round.round.served c.in_ok-round.ensures.0.carries.reaches) in
    is_withheld g.K.Keeping.keeps g.K.Keeping.may_hold (λ (old : State). HasPosted g.A.Ciphers.is_sealing old c.args.now c.args.draws) (λ (old : State). old.own.waiting ≡ None)
    _ c.args.self.now c.self.view_is c.in_ok-round.round c.open.new.self c.keep.new.self c.keep.ensures.device c.in_ok-round.ensures.0
    (c.keep.ensures.crash c.self.inside.device.server.tree change)
    c.from_residual-in_err-keep.result c.from_residual-in_err-keep.ensures.0 (search rules) (search rules)

pub returns : goal.returns
returns g c =
    let change = subst (λ (e : Option Entry). IsChangeOf e c.self.inside.device.server.tree c.open.new.self.server.tree) (sym c.entry_of.ensures)
    (reached_changes c.one_path_changes.ensures g.A.Ciphers.is_sealing _ c.open.new.self.server _ c.in_ok-round.round.served c.in_ok-round.ensures.0.carries.reaches) in
    is_handed g.K.Keeping.keeps g.K.Keeping.may_hold (λ (old : State). HasPosted g.A.Ciphers.is_sealing old c.args.now c.args.draws) (λ (old : State). old.own.waiting ≡ None)
    _ c.args.self.now c.self.view_is c.in_ok-round.round c.open.new.self c.keep.new.self c.keep.ensures.device c.in_ok-round.ensures.0
    (c.keep.ensures.crash c.self.inside.device.server.tree change)
    (search rules) (search rules) (c.in_ok-keep.ensures.kept c.self.inside.device.server.tree change)
