use Rattle.std.proofs.Common.{arith}
use Rattle.osc_rounds.proofs.ProxiedExchange.{is_posted}
use Rattle.osc_rounds.proofs.laws.what_is_posted_through_a_proxy.Goals as goal

pub returns : goal.returns
returns c = λ old new now draw origin step by lawful idle size fits is. is_posted old new now draw origin step by lawful idle (omega (arith, size)) fits is
