use Rattle.std.proofs.lemmas.Result.{err_from_is_err_and}
use Rattle.osc_lab.proofs.Endings.{no_script_lab, no_script_line}
use Rattle.osc_lab.proofs.run.script_of.Goals as goal

pub returns-in_err-bytes : goal.returns-in_err-bytes
returns-in_err-bytes g c =
    let p = err_from_is_err_and c.from_residual.result c.from_residual.ensures.1 in
    rw (p.1, p.2) (record {
      read = tt;
      used = tt;
      puts = tt;
      bad = λ n bad. absurd (no_script_line c.in_err-bytes.field-0.0 c.in_err-bytes.ensures.ends n bad);
      long = c.in_err-bytes.ensures.long;
      end = c.script_bytes.ensures.end;
      ends = no_script_lab c.in_err-bytes.field-0.0 c.in_err-bytes.ensures.ends;
    })
