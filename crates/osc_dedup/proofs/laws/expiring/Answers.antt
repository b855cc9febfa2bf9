use Rattle.osc_dedup.proofs.Found.{found_alive}
use Rattle.osc_dedup.proofs.History.{looked_later, noted_later}
use Rattle.osc_dedup.proofs.laws.expiring.Goals as goal

pub returns-clause-look : goal.returns-clause-look
returns-clause-look c = looked_later

pub returns-clause-note : goal.returns-clause-note
returns-clause-note c = noted_later

pub returns-clause-stays : goal.returns-clause-stays
returns-clause-stays c now later peer id noted entries lives found = found_alive peer id now later noted entries lives found
