use Rattle.std.proofs.lemmas.Result.{IfOk-weaker}
use Rattle.osc_diagram.proofs.diagram.drawn_diagram.Goals as goal

-- the run that was done is the one that is drawn
pub returns : goal.returns
returns c = IfOk-weaker c.drawn.result _ _ (λ diagram shows. (c.in_ok-run.run', c.in_ok-run.ensures, shows)) c.drawn.ensures
