-- What was held goes on so.
use Rattle.std.proofs.Common.{rules}
use Rattle.osc_c.proofs.Lending.{calls_by}
use Rattle.osc_c.proofs.keeping.nzf_device_kept.Goals as goal

pub returns : goal.returns
returns c = calls_by _ _ _ _ c.with.ensures.lent (search rules) (λ x y did. search rules)
