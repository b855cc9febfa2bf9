use Rattle.std.proofs.Common.{[], arith, refl}
use Rattle.osc_programs.specs.{never, ran, shown_after}
use Rattle.osc_programs.proofs.Lasting.{left_alone, no_cause}
use Rattle.osc_programs.proofs.Stored.{fault_kept, fault_keeps}
use Rattle.osc_programs.proofs.Taken.{no_end}
use Rattle.osc_programs.proofs.running.started.Goals as goal

pub returns-in-Ok-clause-ran : goal.returns-in-Ok-clause-ran
returns-in-Ok-clause-ran g c =
    let t = c.take_turns-ended.ensures.turns in (
      t.1.events,
      t.2.node,
      ran c.take_turns-ended.result (shown_after t.1 t.3) _
          (record {
            start = c.in-Ok.supply;
            seeded = c.in-Ok.ensures.seeded;
            taken = t.0;
            few = t.6;
            all = t.7;
            earlier = t.1;
            last = t.2;
            takes = t.4;
            came = t.3;
            leaves = t.5;
            is = refl;
          })
          (record {
            seed = c.in-Ok.ensures.given;
            first = c.args.port.now;
            last = c.take_turns-ended.new.port;
            opened = refl;
            passes = t.8;
          }),
      t.9,
      t.10,
    )

pub returns-in-Err : goal.returns-in-Err
returns-in-Err g c =
    let ended = c.in-Err.ended in
    let fault = c.in-Err.ensures.fault in
    record {
      ran = ([], _, never ended (no_end ended fault), c.telling_goes_on.ensures.none _, λ keeps. left_alone g.K.KeepsSteps.keeps g.K.KeepsSteps.may_hold ended _ _ _ fault keeps);
      cause = λ keeps. no_cause g.K.KeepsSteps.trusted g.K.KeepsSteps.faults _ _ _ ended fault;
      fails = λ error is. absurd (fault_keeps ended error fault is);
      counts = omega arith;
      trust = λ trust. trust;
      file = refl;
      ends = fault_kept ended fault;
    }
