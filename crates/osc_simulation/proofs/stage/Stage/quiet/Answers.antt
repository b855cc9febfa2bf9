use Rattle.std.proofs.Common.{refl}
use Rattle.std.proofs.lemmas.Result.{IfOk-weaker}
use Rattle.osc_simulation.proofs.stage.Stage.quiet.Goals as goal

pub returns : goal.returns
returns c = IfOk-weaker c.quiet.result _ _ (λ _ rounds. (c.quiet.new.self, rounds, refl)) c.quiet.ensures.rounds
