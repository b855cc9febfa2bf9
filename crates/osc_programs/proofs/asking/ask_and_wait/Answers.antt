use Rattle.std.proofs.Common.{refl}
use Rattle.std.proofs.lemmas.Result.{IfOk-weaker, IfErr-weaker}
use Rattle.osc_programs.specs.{sent_alone, then_passed}
use Rattle.osc_programs.proofs.Passing.{passes_more}
use Rattle.osc_programs.proofs.Taken.{fault_talk}
use Rattle.osc_programs.proofs.Talking.{waits_as}
use Rattle.osc_programs.proofs.asking.ask_and_wait.Goals as goal

pub returns-clause-requests : goal.returns-clause-requests
returns-clause-requests g c =
    let sent = c.in_ok-learnt.ensures.sends in
    IfOk-weaker c.awaited.result _ _
    (λ outcome waited. (
      then_passed (sent_alone sent.0) waited.0,
      record {
        step = sent.0;
        begun = _;
        sends = sent.1;
        waited = record { passed = waited.0; outcome = outcome };
        rest = _;
        waits = waits_as _ _ _ _ _ _ _ _ sent.2 waited.1;
        is = refl;
      },
      passes_more g.P.Port.received g.P.Port.sent _ _ _ (sent_alone sent.0) waited.0 sent.3 waited.2,
    ))
    c.awaited.ensures.waits

pub returns-clause-ends : goal.returns-clause-ends
returns-clause-ends g c = IfErr-weaker c.awaited.result _ _ (fault_talk c.args.words.now.request) c.awaited.ensures.fault
