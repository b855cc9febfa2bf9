use Rattle.std.proofs.Common.{⊎_elim}
use Rattle.osc_programs.proofs.EndsEach.{ask_ends, ask_no_done, ask_no_not_done, ends_each, ends_no_bad}
use Rattle.osc_programs.proofs.requests.ask_each.Goals as goal

pub returns-in-Ok : goal.returns-in-Ok
returns-in-Ok g c =
    let found = c.in-Ok.ensures.stays in
    record {
      told = λ done. found;
      bad = λ bad. absurd (ends_no_bad found.5.ends c.in-Ok.ended found.9 bad);
      short = λ done. c.in-Ok.ensures.short;
      end = c.each_by.ensures.end;
      ends = ends_each found.5.ends c.in-Ok.ended found.9;
    }

pub returns-in-Err : goal.returns-in-Err
returns-in-Err g c =
    let ends = c.in-Err.ensures.ends in
    record {
      told = λ done. absurd (⊎_elim (ask_no_done c.in-Err.ended ends) (ask_no_not_done c.in-Err.ended ends) done);
      bad = c.in-Err.ensures.bad;
      short = λ done. absurd (⊎_elim (ask_no_done c.in-Err.ended ends) (ask_no_not_done c.in-Err.ended ends) done);
      end = c.each_by.ensures.end;
      ends = ask_ends c.in-Err.ended ends;
    }
