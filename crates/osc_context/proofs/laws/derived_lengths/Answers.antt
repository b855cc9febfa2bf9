use Rattle.osc_context.specs.{derived}
use Rattle.osc_context.proofs.laws.derived_lengths.Goals as goal

pub returns-clause-key : goal.returns-clause-key
unfolding derived
returns-clause-key c = λ name side. c.lengths.ensures.expand _ _ 16

pub returns-clause-common_iv : goal.returns-clause-common_iv
unfolding derived
returns-clause-common_iv c = λ name. c.lengths.ensures.expand _ _ 13
