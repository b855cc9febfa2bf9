use Rattle.std.proofs.lemmas.Result.{IfOk-weaker}
use Rattle.osc_simulation.proofs.set_up.first_world.Goals as goal

pub returns : goal.returns
returns c = IfOk-weaker c.begin.result _ _ (λ _ is. (_, c.in_ok-start.ensures, is)) c.begin.ensures.begun
