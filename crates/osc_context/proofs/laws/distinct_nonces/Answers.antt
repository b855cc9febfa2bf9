use Rattle.osc_context.proofs.NonceLemmas.{distinct}
use Rattle.osc_context.proofs.laws.distinct_nonces.Goals as goal

pub returns : goal.returns
returns c = λ iv a b m n long short_a short_b few_m few_n same. distinct iv a b m n long short_a short_b same
