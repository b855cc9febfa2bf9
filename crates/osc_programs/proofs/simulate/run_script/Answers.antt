use Rattle.std.proofs.Common.{◌∙◌, [], refl, ap, sym, subst, inl, Err}
use Rattle.std.specs.Io.KnownBytes.{Appends}
use Rattle.osc_simulation.specs.{bad_line_text}
use Rattle.osc_simulation.specs.declared.error.TraceError.{TraceError}
use Rattle.osc_simulation.specs.declared.error.TraceError.TheVariants.{BadLine}
use Rattle.osc_programs.proofs.Appended.{appends_more}
use Rattle.osc_programs.proofs.simulate.run_script.Goals as goal

pub returns-in-Err-BadLine-clause-bad : goal.returns-in-Err-BadLine-clause-bad
returns-in-Err-BadLine-clause-bad g c = λ n e.
    let told = c.tell_bad_line.ensures.bad n e in
    let first = c.in-Err-BadLine.ensures.bad n (ap (λ (error : TraceError). Err error) (c.in-Err-BadLine.field-0-is ∙ ap BadLine told.0)) in
    (first.0, appends_more _ _ _ [] (bad_line_text n) first.1 told.1)

pub returns-in-Err-BadLine-clause-cut : goal.returns-in-Err-BadLine-clause-cut
returns-in-Err-BadLine-clause-cut g c = λ e.
    let first = c.in-Err-BadLine.ensures.bad c.in-Err-BadLine.number (ap (λ (error : TraceError). Err error) c.in-Err-BadLine.field-0-is) in
    ([], inl refl, subst (λ writer. Appends (g.W.Write.contents c.args.writer.now) (g.W.Write.contents writer) []) (sym (c.tell_bad_line.ensures.cut e)) first.1)
