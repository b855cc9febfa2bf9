use Rattle.std.proofs.Common.{rules, subst, sym, [], None, Option, IsSome}
use Rattle.osc_turn.specs.Kept.{IsChangeOf}
use Rattle.osc_model.specs.declared.step.Entry.{Entry}
use Rattle.osc_device.specs.{HasRuled, asked_at, method_of, own_request}
use Rattle.osc_device.specs.State.{State}
use Rattle.osc_device.proofs.Keeping.{is_ended, is_handed, is_lacking, is_withheld, ruled_changes}
use Rattle.osc_device.proofs.kept.KeptDeviceDeviceCalls.rule.Goals as goal

pub returns-in_err-goes_on : goal.returns-in_err-goes_on
returns-in_err-goes_on g c =
    is_ended g.K.Keeping.keeps g.K.Keeping.may_hold (λ (old : State). HasRuled g.A.Ciphers.is_sealing g.A.Ciphers.TAG old c.args.id.now (λ path. asked_at c.args.now c.args.draws (own_request (method_of c.args.ruling) path None []))) (λ (old : State). IsSome old.server.desk.rules.revoked)
    g.met.K.Keeping.holds_first c.args.self.now c.from_residual.result c.from_residual.ensures.0 (search rules)

pub returns-in_err-found : goal.returns-in_err-found
returns-in_err-found g c =
    is_lacking g.K.Keeping.keeps g.K.Keeping.may_hold (λ (old : State). HasRuled g.A.Ciphers.is_sealing g.A.Ciphers.TAG old c.args.id.now (λ path. asked_at c.args.now c.args.draws (own_request (method_of c.args.ruling) path None []))) (λ (old : State). IsSome old.server.desk.rules.revoked)
    g.met.K.Keeping.holds_first c.args.self.now c.from_residual-in_err-found.result _ c.from_residual-in_err-found.ensures.0 (search rules) (search rules) (search rules)
    (search rules)

pub returns-in_err-keep_ruling : goal.returns-in_err-keep_ruling
returns-in_err-keep_ruling g c =
    let change = subst (λ (e : Option Entry). IsChangeOf e c.self.inside.device.server.tree c.rule.new.self.server.tree) (sym c.entry_found.ensures)
    (ruled_changes c.one_path_changes.ensures g.A.Ciphers.is_sealing g.A.Ciphers.TAG c.self.inside.device c.args.id.now (λ path. asked_at c.args.now c.args.draws (own_request (method_of c.args.ruling) path None [])) c.in_ok-found.found c.rule.new.self c.in_ok-found.ensures.0) in
    is_withheld g.K.Keeping.keeps g.K.Keeping.may_hold (λ (old : State). HasRuled g.A.Ciphers.is_sealing g.A.Ciphers.TAG old c.args.id.now (λ path. asked_at c.args.now c.args.draws (own_request (method_of c.args.ruling) path None []))) (λ (old : State). IsSome old.server.desk.rules.revoked)
    _ c.args.self.now c.self.view_is c.in_ok-found.found c.rule.new.self c.keep_ruling.new.self c.keep_ruling.ensures.device c.in_ok-found.ensures.0
    (c.keep_ruling.ensures.crash c.self.inside.device.server.tree change)
    c.from_residual-in_err-keep_ruling.result c.from_residual-in_err-keep_ruling.ensures.0 (search rules) (search rules)

pub returns : goal.returns
returns g c =
    let change = subst (λ (e : Option Entry). IsChangeOf e c.self.inside.device.server.tree c.rule.new.self.server.tree) (sym c.entry_found.ensures)
    (ruled_changes c.one_path_changes.ensures g.A.Ciphers.is_sealing g.A.Ciphers.TAG c.self.inside.device c.args.id.now (λ path. asked_at c.args.now c.args.draws (own_request (method_of c.args.ruling) path None [])) c.in_ok-found.found c.rule.new.self c.in_ok-found.ensures.0) in
    is_handed g.K.Keeping.keeps g.K.Keeping.may_hold (λ (old : State). HasRuled g.A.Ciphers.is_sealing g.A.Ciphers.TAG old c.args.id.now (λ path. asked_at c.args.now c.args.draws (own_request (method_of c.args.ruling) path None []))) (λ (old : State). IsSome old.server.desk.rules.revoked)
    _ c.args.self.now c.self.view_is c.in_ok-found.found c.rule.new.self c.keep_ruling.new.self c.keep_ruling.ensures.device c.in_ok-found.ensures.0
    (c.keep_ruling.ensures.crash c.self.inside.device.server.tree change)
    (search rules) (search rules) (c.in_ok-keep_ruling.ensures.kept c.self.inside.device.server.tree change)
