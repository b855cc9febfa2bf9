use Rattle.osc_model.proofs.Accepted.{names_from_allows}
use Rattle.osc_model.proofs.laws.allowed_is_named.Goals as goal

pub returns : goal.returns
returns c = names_from_allows
