use Rattle.std.proofs.Common.{refl}
use Rattle.osc_programs.specs.{then_passed}
use Rattle.osc_programs.proofs.Passing.{passes_more}
use Rattle.osc_programs.proofs.requests.one.Goals as goal

pub returns-clause-attended : goal.returns-clause-attended
returns-clause-attended g c =
    let paused = c.in_ok-now.ensures.pauses in
    let attended = c.in_ok-end.ensures.attends in (
      then_passed paused.0 attended.0,
      record {
        now = c.in_ok-now.now;
        waited = paused.0;
        ready = _;
        pauses = paused.1;
        after = attended.0;
        attends = attended.1;
        all = refl;
        next = c.saturating_add-staying.ensures;
        gone = c.is_stale-staying.ensures;
      },
      passes_more g.P.Port.received g.P.Port.sent _ _ _ paused.0 attended.0 paused.2 attended.2,
    )
