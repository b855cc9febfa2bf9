use Rattle.std.proofs.Common.{ℕ, List, subst}
use Rattle.osc_programs.specs.{Stops}
use Rattle.osc_programs.proofs.revoking.revoke_at_start.Goals as goal

pub returns-in-Err-clause-stops : goal.returns-in-Err-clause-stops
returns-in-Err-clause-stops g c =
    let stops = c.in-Err.ensures.stops in
    let root = c.args.settings.now.revoked in
    (stops.0, stops.1, subst (λ (ids : List (List ℕ)). Stops root ids c.args.tree.now c.in-Err.ended stops.0 stops.1) c.deref.ensures.value stops.2, stops.3)
