use Rattle.osc_proxy.proofs.UriLaws.{names_something}
use Rattle.osc_proxy.proofs.laws.something_is_named.Goals as goal

pub returns : goal.returns
returns c = names_something
