use Rattle.osc_authz.proofs.MeantLaws.{meant_is}
use Rattle.osc_authz.proofs.laws.meant_contexts.Goals as goal

pub returns : goal.returns
returns c = meant_is
