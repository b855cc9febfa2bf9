use Rattle.std.proofs.Common.{⊎_elim}
use Rattle.osc_programs.proofs.Taken.{ask_client, ask_no_end, ask_not_done, told_client, told_not_bad}
use Rattle.osc_programs.proofs.asking.ask.Goals as goal

pub returns-in-Ok : goal.returns-in-Ok
returns-in-Ok g c =
    let found = c.in-Ok.ensures.talks in
    record {
      told = λ done. let told = c.told.ensures.told done in (found.0, found.1, c.in-Ok.outcome, found.2, found.3, found.4, found.5, found.6, told.0, told.1);
      bad = λ bad. absurd (told_not_bad c.told.result c.told.ensures.ends bad);
      short = λ done. c.in-Ok.ensures.short;
      end = c.outcome_of.ensures.end;
      ends = told_client c.args.words.now.request _ c.told.ensures.ends;
    }

pub returns-in-Err : goal.returns-in-Err
returns-in-Err g c =
    let request = c.args.words.now.request in
    let ends = c.in-Err.ensures.ends in
    record {
      told = λ done. absurd (⊎_elim (ask_no_end request c.in-Err.ended ends) (ask_not_done request c.in-Err.ended ends) done);
      bad = c.in-Err.ensures.bad;
      short = λ done. absurd (⊎_elim (ask_no_end request c.in-Err.ended ends) (ask_not_done request c.in-Err.ended ends) done);
      end = c.outcome_of.ensures.end;
      ends = ask_client request c.in-Err.ended ends;
    }
