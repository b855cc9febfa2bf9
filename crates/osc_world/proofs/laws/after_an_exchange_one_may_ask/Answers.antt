use Rattle.osc_world.proofs.MayAsk.{may_ask, ready_to_ask}
use Rattle.osc_world.proofs.laws.after_an_exchange_one_may_ask.Goals as goal

pub returns-clause-may_ask : goal.returns-clause-may_ask
returns-clause-may_ask c = may_ask

pub returns-clause-straight : goal.returns-clause-straight
returns-clause-straight c = ready_to_ask
