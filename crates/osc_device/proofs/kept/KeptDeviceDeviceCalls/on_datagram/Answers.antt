use Rattle.std.proofs.Common.{rules, subst, sym, Option}
use Rattle.osc_turn.specs.Kept.{IsChangeOf}
use Rattle.osc_model.specs.declared.step.Entry.{Entry}
use Rattle.osc_device.specs.{HasHeard, ServerTakesMemory}
use Rattle.osc_device.specs.State.{State}
use Rattle.osc_server.specs.{core}
use Rattle.osc_device.proofs.Keeping.{is_ended, is_handed, is_lacking, is_withheld}
use Rattle.osc_device.proofs.kept.KeptDeviceDeviceCalls.on_datagram.Goals as goal

pub returns-in_err-goes_on : goal.returns-in_err-goes_on
returns-in_err-goes_on g c =
    is_ended g.K.Keeping.keeps g.K.Keeping.may_hold (λ (old : State). HasHeard g.A.Ciphers.is_sealing old (record { at = c.args.now; from = c.args.from; draw = c.args.draw.now; what = c.args.bytes.now })) (λ (old : State). ServerTakesMemory old.server (record { at = c.args.now; from = c.args.from; draw = c.args.draw.now; what = c.args.bytes.now }))
    g.met.K.Keeping.holds_first c.args.self.now c.from_residual.result c.from_residual.ensures.0 (search rules)

pub returns-in_err-step : goal.returns-in_err-step
returns-in_err-step g c =
    is_lacking g.K.Keeping.keeps g.K.Keeping.may_hold (λ (old : State). HasHeard g.A.Ciphers.is_sealing old (record { at = c.args.now; from = c.args.from; draw = c.args.draw.now; what = c.args.bytes.now })) (λ (old : State). ServerTakesMemory old.server (record { at = c.args.now; from = c.args.from; draw = c.args.draw.now; what = c.args.bytes.now }))
    g.met.K.Keeping.holds_first c.args.self.now c.from_residual-in_err-step.result _ c.from_residual-in_err-step.ensures.0 (search rules) (search rules) (search rules)
    (search rules)

pub returns-in_err-keep : goal.returns-in_err-keep
returns-in_err-keep g c =
    let change = subst (λ (e : Option Entry). IsChangeOf e c.self.inside.device.server.tree c.on_datagram.new.self.server.tree) (sym c.served.ensures)
    (c.one_path_changes.ensures (core c.self.inside.device.server) (core c.on_datagram.new.self.server) c.args.now c.in_ok-step.step.notes c.in_ok-step.ensures.0.made.kind) in
    is_withheld g.K.Keeping.keeps g.K.Keeping.may_hold (λ (old : State). HasHeard g.A.Ciphers.is_sealing old (record { at = c.args.now; from = c.args.from; draw = c.args.draw.now; what = c.args.bytes.now })) (λ (old : State). ServerTakesMemory old.server (record { at = c.args.now; from = c.args.from; draw = c.args.draw.now; what = c.args.bytes.now }))
    _ c.args.self.now c.self.view_is c.in_ok-step.step c.on_datagram.new.self c.keep.new.self c.keep.ensures.device c.in_ok-step.ensures.0
    (c.keep.ensures.crash c.self.inside.device.server.tree change)
    c.from_residual-in_err-keep.result c.from_residual-in_err-keep.ensures.0 (search rules) (search rules)

pub returns : goal.returns
returns g c =
    let change = subst (λ (e : Option Entry). IsChangeOf e c.self.inside.device.server.tree c.on_datagram.new.self.server.tree) (sym c.served.ensures)
    (c.one_path_changes.ensures (core c.self.inside.device.server) (core c.on_datagram.new.self.server) c.args.now c.in_ok-step.step.notes c.in_ok-step.ensures.0.made.kind) in
    is_handed g.K.Keeping.keeps g.K.Keeping.may_hold (λ (old : State). HasHeard g.A.Ciphers.is_sealing old (record { at = c.args.now; from = c.args.from; draw = c.args.draw.now; what = c.args.bytes.now })) (λ (old : State). ServerTakesMemory old.server (record { at = c.args.now; from = c.args.from; draw = c.args.draw.now; what = c.args.bytes.now }))
    _ c.args.self.now c.self.view_is c.in_ok-step.step c.on_datagram.new.self c.keep.new.self c.keep.ensures.device c.in_ok-step.ensures.0
    (c.keep.ensures.crash c.self.inside.device.server.tree change)
    (search rules) (search rules) (c.in_ok-keep.ensures.kept c.self.inside.device.server.tree change)
