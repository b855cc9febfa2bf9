use Rattle.osc_context.proofs.KeyLemmas.{one_common_iv, one_key}
use Rattle.osc_context.proofs.laws.one_derivation.Goals as goal

pub returns-clause-common_iv : goal.returns-clause-common_iv
returns-clause-common_iv c = one_common_iv

pub returns-clause-key : goal.returns-clause-key
returns-clause-key c = one_key
