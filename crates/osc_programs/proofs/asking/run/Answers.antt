use Rattle.std.proofs.Common.{◌∙◌, refl}
use Rattle.std.proofs.lemmas.Result.{IfOk-weaker}
use Rattle.osc_programs.specs.{sent_alone, then_passed}
use Rattle.osc_programs.proofs.Passing.{passes_more}
use Rattle.osc_programs.proofs.Talking.{ends_so, goes_so, waits_as, waits_so}
use Rattle.osc_programs.proofs.asking.run.Goals as goal

pub returns-clause-converses : goal.returns-clause-converses
returns-clause-converses g c =
    let posted = c.in_ok-learnt.ensures.posts in
    let waited = c.in_ok-exchanged.ensures.waits in
    let until = ends_so c.args.words.now.patience.millis c.in_ok-learnt.learnt.at _ _ c.in_ok-learnt.ensures.at c.all-left.ensures.until in
    IfOk-weaker c.go_on.result _ _
    (λ outcome goes. (
      then_passed (sent_alone posted.0) (then_passed waited.0 goes.0),
      record {
        step = posted.0;
        begun = _;
        posts = posted.1;
        exchanged = record { passed = waited.0; outcome = c.in_ok-exchanged.exchanged };
        left = _;
        between = _;
        waits = waits_so _ _ _ _ _ _ _ _ _ until c.all-left.ensures.turns (waits_as _ _ _ _ _ _ _ _ posted.2 waited.1);
        further = record { passed = goes.0; outcome = outcome };
        goes_on = goes_so _ _ _ _ _ _ _ _ (c.awaited.ensures.until ∙ until) goes.1;
        is = refl;
      },
      passes_more g.P.Port.received g.P.Port.sent _ _ _ (sent_alone posted.0) (then_passed waited.0 goes.0) posted.3
          (passes_more g.P.Port.received g.P.Port.sent _ _ _ waited.0 goes.0 waited.2 goes.2),
    ))
    c.go_on.ensures.goes_on
