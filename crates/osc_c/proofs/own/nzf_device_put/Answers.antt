-- What was held goes on so.
use Rattle.std.proofs.Common.{rules}
use Rattle.osc_c.proofs.Lending.{tells_of}
use Rattle.osc_c.proofs.own.nzf_device_put.Goals as goal

pub returns : goal.returns
returns c = tells_of _ _ _ _ _ _ c.with.ensures.lent (search rules) (λ none. search rules) (λ s l called. let d = called.met.1 in (d.0, d.1, search (d.2, rules), d.3))
