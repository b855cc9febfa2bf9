use Rattle.std.proofs.Common.{◌∙◌, Option, ap, is_some, not, refl, sym}
use Rattle.osc_model.specs.declared.step.ClientResult.{ClientResult}
use Rattle.osc_programs.specs.{sent_alone, then_passed}
use Rattle.osc_programs.proofs.Passing.{passes_more}
use Rattle.osc_programs.proofs.Talking.{ends_so, waits_as, waits_so}
use Rattle.osc_programs.proofs.requests.asked_once.Goals as goal

pub returns-clause-once : goal.returns-clause-once
returns-clause-once g c =
    let sent = c.in_ok-learnt.ensures.sends in
    let waited = c.in_ok-outcome.ensures.waits in
    let until = ends_so c.args.patience.millis c.in_ok-learnt.learnt.at _ _ c.in_ok-learnt.ensures.at c.all-left.ensures.until in (
      then_passed (sent_alone sent.0) waited.0,
      record {
        until = _;
        asks = record {
          step = sent.0;
          begun = _;
          sends = sent.1;
          waited = record { passed = waited.0; outcome = c.in_ok-outcome.outcome };
          rest = _;
          waits = waits_so _ _ _ _ _ _ _ _ _ until c.all-left.ensures.turns (waits_as _ _ _ _ _ _ _ _ sent.2 waited.1);
          is = refl;
        };
        ends = refl;
        about = refl;
        sent = c.went_out-sent.ensures ∙ ap (λ (learnt : Option ClientResult). not (is_some learnt)) (sym sent.2);
      },
      passes_more g.P.Port.received g.P.Port.sent _ _ _ (sent_alone sent.0) waited.0 sent.3 waited.2,
    )
