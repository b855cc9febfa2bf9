use Rattle.osc_proxy.proofs.Tokens.{found_by_own}
use Rattle.osc_proxy.proofs.laws.found_by_token.Goals as goal

pub returns : goal.returns
returns c = found_by_own
