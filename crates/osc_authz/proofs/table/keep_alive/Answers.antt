use Rattle.std.proofs.Common.{rules}
use Rattle.std.proofs.lemmas.Fn.{filter_same}
use Rattle.osc_authz.specs.Inner.Lives.{holds_live_by}
use Rattle.osc_authz.proofs.table.keep_alive.Goals as goal

pub returns-clause-items : goal.returns-clause-items
returns-clause-items c = filter_same _ (holds_live_by c.args.now c.args.revoked.now) _ (λ x b f r. search rules) _ _ c.retain.ensures.filtered
