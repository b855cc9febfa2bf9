use Rattle.std.proofs.Common.{ℕ, Err, ap, subst}
use Rattle.osc_script.specs.declared.read.ScriptError.{ScriptError}
use Rattle.osc_words.specs.RequestLines.{IsFirstBad, lines_of}
use Rattle.osc_programs.proofs.Staying.{line_is}
use Rattle.osc_programs.proofs.requests.requests_in.Goals as goal

pub returns-in-Err-BadLine-clause-bad : goal.returns-in-Err-BadLine-clause-bad
returns-in-Err-BadLine-clause-bad c = λ n e.
    subst (λ (k : ℕ). IsFirstBad (lines_of c.args.text.now) k) (line_is c.in-Err-BadLine.number n e)
    (c.in-Err-BadLine.ensures.bad c.in-Err-BadLine.number (ap (λ (error : ScriptError). Err error) c.in-Err-BadLine.field-0-is))
