use Rattle.std.proofs.Common.{◌++◌, ◌∷◌, [], subst}
use Rattle.osc_log.specs.{Tells, lost}
use Rattle.osc_model.specs.declared.node.Moment.{Moment}
use Rattle.osc_programs.specs.Turning.{of_clock}
use Rattle.osc_programs.proofs.turns.tell_lost.Goals as goal

pub returns : goal.returns
returns g c = λ came.
    subst (λ (now : Moment). Tells (g.L.Log.told c.args.log.now) (g.L.Log.told c.lost.new.self) (of_clock now c.args.rhythm.now.supply ++ lost now ∷ [])) c.at-now.ensures
    (c.telling_goes_on.ensures.more _ _ _ _ _ c.tell_clock.ensures c.lost.ensures)
