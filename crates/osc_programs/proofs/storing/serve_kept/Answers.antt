use Rattle.std.proofs.Common.{◌∙◌, ◌≤◌, ap, arith, refl, subst, sym}
use Rattle.osc_programs.specs.{HasCause, LeavesKept}
use Rattle.osc_programs.proofs.Lasting.{at_last, cause_since, done_keeps}
use Rattle.osc_programs.proofs.Stored.{ended_well}
use Rattle.osc_programs.proofs.storing.serve_kept.Goals as goal

pub returns-in-Done : goal.returns-in-Done
returns-in-Done g c =
    let told = c.run.ensures.ran in
    let last = c.run.new.kept.node in
    let ended = c.end_whole.result.0 in
    let faults = g.K.KeepsSteps.faults in
    let so_far = subst (λ keeper. faults c.args.kept.keeper ≤ faults keeper) (sym c.keeper_of.ensures) c.run.ensures.counts in
    record {
      ran = (
        told.0,
        last,
        last,
        at_last _ _ _ _ _ _ _ _ _ _ ended told.0 told.1 last c.in-Done.is told.2 c.end_whole.ensures.over,
        told.3,
        λ keeps.
            let kept = subst (λ keeper. g.K.KeepsSteps.keeps keeper last) (sym c.keeper_of.ensures)
            (done_keeps g.K.KeepsSteps.keeps g.K.KeepsSteps.may_hold _ _ last _ c.in-Done.is (told.4 keeps)) in (
              c.end_whole.ensures.kept last kept,
              cause_since g.K.KeepsSteps.trusted faults _ _ _ _ _ ended so_far (λ long. absurd long) (c.end_whole.ensures.cause last kept),
            ),
      );
      counts = omega (arith, so_far, c.end_whole.ensures.counts);
      trust = λ trust. c.run.ensures.trust (subst g.K.KeepsSteps.trusted c.keeper_of.ensures (c.end_whole.ensures.trust trust));
      file = c.end_whole.ensures.file ∙ (ap g.K.KeepsSteps.file c.keeper_of.ensures ∙ c.run.ensures.file);
      ends = ended_well ended c.end_whole.ensures.over;
    }

pub returns-in_default : goal.returns-in_default
returns-in_default g c =
    let told = c.run.ensures.ran in
    let node = c.run.new.kept.node in
    let ended = c.run.result in
    let keeper = sym c.keeper_of-in_default.ensures in
    record {
      ran = (
        told.0,
        told.1,
        node,
        told.2,
        told.3,
        λ keeps. (
          subst (λ keeper. LeavesKept g.K.KeepsSteps.keeps g.K.KeepsSteps.may_hold ended told.1 node keeper) keeper (told.4 keeps),
          subst (λ keeper. HasCause g.K.KeepsSteps.trusted g.K.KeepsSteps.faults (g.K.KeepsSteps.too_long node) c.args.kept.keeper keeper ended) keeper (c.run.ensures.cause keeps),
        ),
      );
      counts = subst (λ keeper. g.K.KeepsSteps.faults c.args.kept.keeper ≤ g.K.KeepsSteps.faults keeper) keeper c.run.ensures.counts;
      trust = subst (λ keeper. g.K.KeepsSteps.trusted keeper → g.K.KeepsSteps.trusted c.args.kept.keeper) keeper c.run.ensures.trust;
      file = ap g.K.KeepsSteps.file c.keeper_of-in_default.ensures ∙ c.run.ensures.file;
      ends = c.run.ensures.ends;
    }
