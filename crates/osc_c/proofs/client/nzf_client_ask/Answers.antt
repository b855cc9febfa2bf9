-- What was held goes on so.
use Rattle.std.proofs.Common.{rules}
use Rattle.osc_c.proofs.Lending.{calls_of}
use Rattle.osc_c.proofs.client.nzf_client_ask.Goals as goal

pub returns : goal.returns
returns c = calls_of _ _ _ _ _ _ c.with.ensures.lent (search rules) (λ s l called. called.met.1)
