use Rattle.std.proofs.Common.{◌++◌, List, subst}
use Rattle.osc_log.specs.{Tells}
use Rattle.osc_model.specs.declared.node.Moment.{Moment}
use Rattle.osc_turn.specs.declared.turning.Stepped.{Stepped}
use Rattle.osc_programs.specs.Turning.{of_clock, of_lost, of_steps}
use Rattle.osc_programs.proofs.turns.tell_turn.Goals as goal

pub returns-clause-told : goal.returns-clause-told
returns-clause-told g c = λ lost before after ends.
    let more = c.telling_goes_on.ensures.more in
    let held = g.N.Holding.held c.args.node.now in
    let supply = c.args.rhythm.now.supply in
    subst (λ (steps : List Stepped). Tells (g.L.Log.told c.args.log.now) (g.L.Log.told c.tell_end.new.log)
    (of_clock c.args.rhythm.now.batch.at supply ++ (of_steps c.args.rhythm.now.batch.at held steps ++ of_lost c.args.rhythm.now.batch.at lost))) c.steps.ensures
    (subst (λ (now : Moment). Tells (g.L.Log.told c.args.log.now) (g.L.Log.told c.tell_end.new.log)
    (of_clock now supply ++ (of_steps now held c.steps.result.now ++ of_lost now lost))) c.at-now.ensures
    (more _ _ _ _ _ c.tell_clock.ensures (more _ _ _ _ _ c.tell_steps.ensures (c.tell_end.ensures.told lost before after ends))))
