use Rattle.std.proofs.Common.{◌∙◌, ◌++◌, ◌∷◌, [], List, None, Some, ap, refl, subst, subst₂, sym}
use Rattle.osc_log.specs.{Tells}
use Rattle.osc_store.specs.declared.error.KeepError.{KeepError}
use Rattle.osc_turn.specs.Running.{BatchState, PortState, gave_in, sent_by, ticks_at}
use Rattle.osc_turn.specs.Unsent.{IfNoMoment}
use Rattle.osc_programs.specs.{moved_on}
use Rattle.osc_programs.specs.Turning as turning
use Rattle.osc_programs.specs.declared.ended.Ended.TheVariants.{NotKept, PortFailed}
use Rattle.osc_programs.proofs.Lasting.{left_alone, no_cause}
use Rattle.osc_programs.proofs.Passing.{grown_none}
use Rattle.osc_programs.proofs.Stored.{fault_keeps, fault_unkept}
use Rattle.osc_programs.proofs.Unsents.{passes_nothing, stays_so, stood, was_failed, was_lost, was_missed}
use Rattle.osc_programs.proofs.turns.one_turn.Goals as goal

pub returns-in-Ok-clause-ok : goal.returns-in-Ok-clause-ok
returns-in-Ok-clause-ok g c =
    let does = c.in-Ok.ensures.done in
    let node = c.kept_turn.new.kept.node in
    let supply = c.kept_turn.new.supply in
    let log = c.tell_turn.new.log in (
      _,
      turning.taken does.made does.lost _ does.turn,
      record { given = does.came_in; handed = does.sends },
      subst (λ (batch : BatchState). Tells (g.L.Log.told c.args.log.now) (g.L.Log.told log)
          (turning.of_clock batch.at supply ++ (turning.of_steps batch.at (g.N.Holding.held node) batch.steps ++ turning.of_lost batch.at does.lost)))
          does.is_batch (c.tell_turn.ensures.told does.lost _ _ does.ends),
    )

pub returns-in-Memory-clause-ok : goal.returns-in-Memory-clause-ok
returns-in-Memory-clause-ok g c =
    let drops = was_lost _ _ _ c.in-NoStep.is c.in-Memory.is c.in-Err.ensures.lost in
    let supply = c.kept_turn.new.supply in
    let log = c.tell_lost.new.log in (
      _,
      turning.lost drops.1.lost _ drops.1.turn,
      record { given = drops.1.came_in; handed = drops.1.sends ∙ grown_none _ },
      subst (λ (batch : BatchState). Tells (g.L.Log.told c.args.log.now) (g.L.Log.told log) (turning.of_clock batch.at supply ++ turning.of_lost batch.at (Some drops.1.lost)))
          drops.1.is_batch (c.tell_lost.ensures drops.1.lost),
    )

pub returns-in-Memory-clause-kept : goal.returns-in-Memory-clause-kept
returns-in-Memory-clause-kept g c = λ keeps.
    let drops = was_lost _ _ _ c.in-NoStep.is c.in-Memory.is c.in-Err.ensures.lost in
    subst₂ g.K.KeepsSteps.keeps (sym drops.0) (sym (drops.1.turn.loses.node ∙ drops.1.turn.begins.node)) keeps

pub returns-in-Port : goal.returns-in-Port
returns-in-Port g c =
    let fails = was_failed _ _ _ _ c.in-NoStep.is c.in-Port.is c.in-Err.ensures.failed in
    record {
      ok = tt;
      kept = tt;
      over = tt;
      err = (
        [],
        stays_so g.N.Node.acts g.N.Node.is_step _ PortFailed _ fails.1.node,
        passes_nothing g.P.Port.received g.P.Port.sent _ _ fails.1.nothing fails.1.sends,
        refl,
      );
      held = λ keeps. subst₂ g.K.KeepsSteps.keeps (sym (ap (λ kept. kept.keeper) fails.0)) (sym fails.1.node) keeps;
      cause = λ keeps. tt;
      fails = λ error is. absurd cc;
      counts = c.kept_turn.ensures.counts;
      trust = c.kept_turn.ensures.trust;
      file = c.kept_turn.ensures.file;
      fault = tt;
    }

pub returns-in-NoMoment : goal.returns-in-NoMoment
returns-in-NoMoment g c =
    let none = subst (IfNoMoment _) c.in-NoMoment.is c.in-Err.ensures.no_moment in
    let ended = c.ended_by_io.result in
    let fault = c.ended_by_io.ensures.fault in
    record {
      ok = tt;
      kept = tt;
      over = tt;
      err = (
        [],
        stays_so g.N.Node.acts g.N.Node.is_step _ ended _ (ap (λ kept. kept.node) none.0),
        passes_nothing g.P.Port.received g.P.Port.sent _ _ (ap (λ (port : PortState). port.received) none.3) (ap (λ (port : PortState). port.sent) none.3),
        refl,
      );
      held = λ keeps. left_alone g.K.KeepsSteps.keeps g.K.KeepsSteps.may_hold ended _ _ _ fault
          (subst₂ g.K.KeepsSteps.keeps (sym (ap (λ kept. kept.keeper) none.0)) (sym (ap (λ kept. kept.node) none.0)) keeps);
      cause = λ keeps. no_cause g.K.KeepsSteps.trusted g.K.KeepsSteps.faults _ _ _ ended fault;
      fails = λ error is. absurd (fault_keeps ended error fault is);
      counts = c.kept_turn.ensures.counts;
      trust = c.kept_turn.ensures.trust;
      file = c.kept_turn.ensures.file;
      fault = fault_unkept ended fault;
    }

pub returns-in-NotKept : goal.returns-in-NotKept
returns-in-NotKept g c =
    let error = c.in-NotKept.error in
    let misses = was_missed _ _ error c.in-NotKept.is c.in-Err.ensures.not_kept in
    record {
      ok = tt;
      kept = tt;
      over = tt;
      err = (
        _,
        moved_on error misses.made misses.lost _ misses.turn,
        record { given = misses.came_in; handed = misses.sends ∙ grown_none _ },
        refl,
      );
      held = λ keeps.
          let stands = c.kept_turn.ensures.stands keeps in
          stood g.K.KeepsSteps.keeps g.K.KeepsSteps.may_hold (λ it first last keeps. g.met.K.KeepsSteps.holds_second it first last (g.met.K.KeepsSteps.holds_first it last last keeps)) _ _ _
          stands.0 stands.2;
      cause = λ keeps trust. was_missed _ _ error c.in-NotKept.is (c.in-Err.ensures.cause keeps trust);
      fails = λ error is. was_missed (λ _. g.K.KeepsSteps.may_fail) _ c.in-NotKept.error c.in-NotKept.is c.in-Err.ensures.fails;
      counts = c.kept_turn.ensures.counts;
      trust = c.kept_turn.ensures.trust;
      file = c.kept_turn.ensures.file;
      fault = tt;
    }
