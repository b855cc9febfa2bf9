use Rattle.osc_proxy.proofs.Forwarded.{no_longer}
use Rattle.osc_proxy.proofs.laws.forwarding_adds_nothing.Goals as goal

pub returns : goal.returns
returns c = no_longer c.length_of_spelling.ensures.exact c.fewer_options.ensures.length
