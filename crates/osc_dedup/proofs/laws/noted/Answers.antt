use Rattle.osc_dedup.proofs.Found.{noted_found}
use Rattle.osc_dedup.proofs.laws.noted.Goals as goal

pub returns : goal.returns
returns c now later peer id noted entries lives = noted_found peer id now later noted entries lives
