-- At the moment of these milliseconds.
use Rattle.std.proofs.Common.{ℕ, subst}
use Rattle.osc_c.specs.Own.{RulesBy}
use Rattle.osc_c.proofs.calls.device.DeviceNode.rule.Goals as goal

pub returns-in-Ok-clause-rules : goal.returns-in-Ok-clause-rules
returns-in-Ok-clause-rules g c =
    subst (λ (ms : ℕ). RulesBy g.A.Ciphers.is_sealing g.A.Ciphers.TAG c.args.ruling c.args.self.now (record { ms = ms; id = c.args.id.now; draws = c.args.draws.now }) c.rule_at.result c.rule_at.new.self)
    c.in-Ok.ensures.ok c.rule_at.ensures.rules
