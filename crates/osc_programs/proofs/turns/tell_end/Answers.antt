use Rattle.std.proofs.Common.{Option, subst, sym}
use Rattle.osc_log.specs.{Tells}
use Rattle.osc_turn.specs.{Received}
use Rattle.osc_turn.specs.Running.{EndsBy}
use Rattle.osc_turn.specs.declared.error.TurnError.{TurnError}
use Rattle.osc_programs.specs.Turning.{of_lost}
use Rattle.osc_programs.proofs.Unsents.{lost_none}
use Rattle.osc_programs.proofs.turns.tell_end.Goals as goal

pub returns-in-None-clause-told : goal.returns-in-None-clause-told
returns-in-None-clause-told g c = λ lost before after ends.
    let told = g.L.Log.told c.args.log.now in
    subst (λ (lost : Option Received). Tells told told (of_lost c.args.now lost)) (sym (lost_none _ lost before after c.in-None.is ends)) (c.telling_goes_on.ensures.none told)

pub returns-in-Some-clause-told : goal.returns-in-Some-clause-told
returns-in-Some-clause-told g c = λ lost before after ends.
    c.tell_error.ensures.told lost before after (subst (λ (ended : Option TurnError). EndsBy ended lost before after) c.in-Some.is ends)
