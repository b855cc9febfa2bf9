use Rattle.osc_authz.proofs.ContextLaws.{kept}
use Rattle.osc_authz.proofs.laws.live_contexts.Goals as goal

pub returns : goal.returns
returns c = kept
