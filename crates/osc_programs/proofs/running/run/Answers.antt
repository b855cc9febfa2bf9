use Rattle.std.proofs.Common.{[], None, arith, refl, subst, sym}
use Rattle.osc_programs.specs.{never}
use Rattle.osc_programs.proofs.Lasting.{left_alone, no_cause, opened_so}
use Rattle.osc_programs.proofs.Stored.{fault_kept, fault_keeps}
use Rattle.osc_programs.proofs.Taken.{no_end}
use Rattle.osc_programs.proofs.running.run.Goals as goal

pub returns-in-Ok-clause-ran : goal.returns-in-Ok-clause-ran
returns-in-Ok-clause-ran g c =
    let told = c.started.ensures.ran in (
      told.0,
      told.1,
      opened_so _ _ _ _ _ g.N.Node.acts g.N.Node.is_step g.N.Holding.held _ _ _ _ _ _ (λ port is. subst (g.R.Sockets.opened c.args.runtime.now c.args.bind.now None) (sym is) c.in-Ok.ensures.opened) told.2,
      told.3,
      told.4,
    )

pub returns-in-Err : goal.returns-in-Err
returns-in-Err g c =
    let ended = c.in-Err.ended in
    let fault = c.in-Err.ensures.fault in
    record {
      ran = ([], _, never ended (no_end ended fault), c.telling_goes_on.ensures.none _, λ keeps. left_alone g.K.KeepsSteps.keeps g.K.KeepsSteps.may_hold ended _ _ _ fault keeps);
      cause = λ keeps. no_cause g.K.KeepsSteps.trusted g.K.KeepsSteps.faults _ _ _ ended fault;
      fails = λ error is. absurd (fault_keeps ended error fault is);
      counts = omega arith;
      trust = λ trust. trust;
      file = refl;
      ends = fault_kept ended fault;
    }
