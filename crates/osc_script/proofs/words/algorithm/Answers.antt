use Rattle.std.proofs.Common.{arith, sym, ◌∙◌}
use Rattle.osc_script.proofs.AlgorithmWords.{taken, kept}
use Rattle.osc_script.proofs.words.algorithm.Goals as goal

pub returns-then-eq : goal.returns-then-eq
returns-then-eq c = taken c.args.words.now _ _ (omega (arith, c.in-len1-up.len_at_least)) (sym c.eq.ensures ∙ c.if-eq.true)

pub returns-else-eq : goal.returns-else-eq
returns-else-eq c = kept c.args.words.now _ _ (omega (arith, c.in-len1-up.len_at_least)) (sym c.eq.ensures ∙ c.if-eq.false)
