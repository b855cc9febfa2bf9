-- What was held is held still.
use Rattle.std.proofs.Common.{rules}
use Rattle.osc_c.proofs.Lending.{looks_of}
use Rattle.osc_c.proofs.serving.value_at.Goals as goal

pub returns : goal.returns
returns c = looks_of _ _ _ _ _ _ c.with.ensures.lent (search rules) (λ s l called. (search (called.met, rules), search (called.met, rules)))
