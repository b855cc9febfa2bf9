use Rattle.osc_proxy.proofs.Forwarded.{named_by_options}
use Rattle.osc_proxy.proofs.laws.named_by_options.Goals as goal

pub returns : goal.returns
returns c = named_by_options
