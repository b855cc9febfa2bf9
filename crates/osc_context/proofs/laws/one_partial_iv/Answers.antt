use Rattle.osc_context.proofs.NonceLemmas.{one_partial_iv_of, partial_iv-some, partial_iv-short}
use Rattle.osc_context.proofs.laws.one_partial_iv.Goals as goal

pub returns-clause-number : goal.returns-clause-number
returns-clause-number c = λ m n few_m few_n same. one_partial_iv_of m n same

pub returns-clause-size : goal.returns-clause-size
returns-clause-size c = λ n. (partial_iv-some n, partial_iv-short n)
