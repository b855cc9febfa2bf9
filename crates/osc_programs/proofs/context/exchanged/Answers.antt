use Rattle.std.proofs.Common.{refl}
use Rattle.std.proofs.lemmas.Result.{IfOk-weaker}
use Rattle.osc_programs.specs.{sent_alone, then_passed}
use Rattle.osc_programs.proofs.Passing.{passes_more}
use Rattle.osc_programs.proofs.Talking.{ends_so, waits_as, waits_so}
use Rattle.osc_programs.proofs.context.exchanged.Goals as goal

pub returns-clause-exchanges : goal.returns-clause-exchanges
returns-clause-exchanges g c =
    let posted = c.in_ok-learnt.ensures.posts in
    let until = ends_so c.args.patience.millis c.in_ok-learnt.learnt.at _ _ c.in_ok-learnt.ensures.at c.all-left.ensures.until in
    IfOk-weaker c.awaited.result _ _
    (λ outcome waited. (
      then_passed (sent_alone posted.0) waited.0,
      record {
        step = posted.0;
        begun = _;
        posts = posted.1;
        waited = record { passed = waited.0; outcome = outcome };
        left = _;
        waits = waits_so _ _ _ _ _ _ _ _ _ until c.all-left.ensures.turns (waits_as _ _ _ _ _ _ _ _ posted.2 waited.1);
        is = refl;
      },
      passes_more g.P.Port.received g.P.Port.sent _ _ _ (sent_alone posted.0) waited.0 posted.3 waited.2,
    ))
    c.awaited.ensures.waits
