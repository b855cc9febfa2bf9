use Rattle.std.proofs.Common.{ℕ, List, subst}
use Rattle.std.specs.Io.KnownBytes.{Appends}
use Rattle.osc_diagram.specs.{IsDiagramOf}
use Rattle.osc_diagram.specs.declared.diagram.Diagram.{Diagram}
use Rattle.osc_programs.specs.Drawing.{drawn_as}
use Rattle.osc_programs.proofs.Scripts.{no_script_done, no_script_line, no_script_sim, no_script_words, of_known}
use Rattle.osc_programs.proofs.drawing.run.Goals as goal

pub returns-in-Ok-clause-done : goal.returns-in-Ok-clause-done
returns-in-Ok-clause-done g c = λ done.
    let P = λ (script : List ℕ). (diagram : Diagram) × IsDiagramOf script diagram
    × Appends (g.W.Write.contents c.args.writer.now) (g.W.Write.contents c.draw_script.new.writer) (drawn_as c.args.form diagram) in
    of_known (g.R.Read.remaining c.args.reader.now) c.in-Ok.script.items P c.in-Ok.ensures.bytes (subst P c.deref.ensures.value (c.draw_script.ensures.done done))

pub returns-in-Err-clause-ends : goal.returns-in-Err-clause-ends
returns-in-Err-clause-ends g c = no_script_sim c.in-Err.ended c.in-Err.ensures.ends

pub returns-in-Err-clause-words : goal.returns-in-Err-clause-words
returns-in-Err-clause-words g c = no_script_words c.in-Err.ended c.in-Err.ensures.ends

pub returns-in-Ok-clause-long : goal.returns-in-Ok-clause-long
returns-in-Ok-clause-long g c = λ long. absurd (c.draw_script.ensures.whole long)

pub returns-in-Err-clause-bad : goal.returns-in-Err-clause-bad
returns-in-Err-clause-bad g c = λ n bad. absurd (no_script_line c.in-Err.ended c.in-Err.ensures.ends n bad)

pub returns-in-Err-clause-done : goal.returns-in-Err-clause-done
returns-in-Err-clause-done g c = λ done. absurd (no_script_done c.in-Err.ended c.in-Err.ensures.ends done)
