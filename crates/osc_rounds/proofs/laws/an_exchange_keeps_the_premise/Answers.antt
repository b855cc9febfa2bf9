use Rattle.osc_rounds.proofs.Premises.{exchange_among}
use Rattle.osc_rounds.proofs.laws.an_exchange_keeps_the_premise.Goals as goal

pub returns : goal.returns
returns c = exchange_among
