use Rattle.std.proofs.Common.{arith}
use Rattle.osc_authz.proofs.LifeLemmas.{others_unmarked}
use Rattle.osc_authz.proofs.revoked_marks.RevokedMarks.has.Goals as goal

pub returns-in_default : goal.returns-in_default
returns-in_default c = others_unmarked c.args.self.now c.args.id.now (λ one. absurd (omega (arith, one, c.in_default.len_below)))

pub returns-in_default-2 : goal.returns-in_default-2
returns-in_default-2 c = others_unmarked c.args.self.now c.args.id.now (λ one. absurd (omega (arith, one, c.in_default.len_at_least)))
