use Rattle.std.proofs.Common.{List, Option, Some, refl, subst, sym}
use Rattle.osc_log.specs.{Event, Tells}
use Rattle.osc_turn.specs.{Received}
use Rattle.osc_programs.specs.Turning.{of_lost}
use Rattle.osc_programs.proofs.Unsents.{lost_at_port, lost_some}
use Rattle.osc_programs.proofs.turns.tell_error.Goals as goal

pub returns-in-Memory-clause-told : goal.returns-in-Memory-clause-told
returns-in-Memory-clause-told g c = λ lost before after ends.
    subst (λ (events : List Event). Tells (g.L.Log.told c.args.log.now) (g.L.Log.told c.lost.new.self) events)
    (sym (lost_some (Some c.args.error) c.args.error c.args.now lost before after refl c.in-Memory.is ends)) c.lost.ensures

pub returns-in-Port-clause-told : goal.returns-in-Port-clause-told
returns-in-Port-clause-told g c = λ lost before after ends.
    let told = g.L.Log.told c.args.log.now in
    subst (λ (lost : Option Received). Tells told told (of_lost c.args.now lost)) (sym (lost_at_port (Some c.args.error) c.args.error _ lost before after refl c.in-Port.is ends))
    (c.telling_goes_on.ensures.none told)
