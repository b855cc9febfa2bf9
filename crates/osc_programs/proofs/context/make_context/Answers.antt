use Rattle.std.proofs.Common.{◌∙◌, List, ℕ, subst}
use Rattle.std.specs.Io.KnownBytes.{Appends}
use Rattle.osc_programs.proofs.Contexts.{agree_context, agree_no_end, appends_nothing, written_context, written_nothing, written_not_bad}
use Rattle.osc_programs.proofs.context.make_context.Goals as goal

pub returns-in-Ok : goal.returns-in-Ok
returns-in-Ok g c =
    let found = c.in-Ok.ensures.made in
    record {
      made = λ done. (
        found.0,
        found.1,
        found.2,
        found.3,
        found.4,
        found.5,
        found.6,
        found.7,
        found.8,
        subst (λ (bytes : List ℕ). Appends (g.W.Write.contents c.args.writer.now) (g.W.Write.contents c.written.new.writer) bytes) (c.deref.ensures.value ∙ found.9) (c.written.ensures.done done),
      );
      none = λ done failed. absurd (written_nothing c.written.result c.written.ensures.cases done failed);
      bad = λ bad. absurd (written_not_bad c.written.result c.written.ensures.cases bad);
      short = λ done. c.in-Ok.ensures.short;
      end = c.made_text.ensures.end;
      ends = written_context c.written.result c.written.ensures.cases;
    }

pub returns-in-Err : goal.returns-in-Err
returns-in-Err g c =
    let ends = c.in-Err.ensures.ends in
    record {
      made = λ done. absurd (agree_no_end c.in-Err.ended ends done);
      none = λ done failed. appends_nothing (g.W.Write.contents c.args.writer.now);
      bad = c.in-Err.ensures.bad;
      short = λ done. absurd (agree_no_end c.in-Err.ended ends done);
      end = c.made_text.ensures.end;
      ends = agree_context c.in-Err.ended ends;
    }
