use Rattle.std.proofs.Common.{ℕ, Option, subst}
use Rattle.osc_log.specs.{Tells}
use Rattle.osc_programs.specs.Turning.{of_behind}
use Rattle.osc_programs.proofs.turns.tell_clock.Goals as goal

pub returns-in-None : goal.returns-in-None
returns-in-None g c =
    let told = g.L.Log.told c.args.log.now in
    subst (λ (seconds : Option ℕ). Tells told told (of_behind c.args.now seconds)) c.in-None.ensures (c.telling_goes_on.ensures.none told)
