use Rattle.osc_world.proofs.MayAsk.{may_ask_again, ready_to_ask_again}
use Rattle.osc_world.proofs.laws.after_an_answer_one_may_ask.Goals as goal

pub returns-clause-may_ask : goal.returns-clause-may_ask
returns-clause-may_ask c = may_ask_again

pub returns-clause-straight : goal.returns-clause-straight
returns-clause-straight c = ready_to_ask_again
