use Rattle.std.proofs.Common.{ℕ, List, [], inl, refl, subst}
use Rattle.std.specs.Io.KnownBytes.{Appends}
use Rattle.osc_simulation.specs.{CutShort, Simulates}
use Rattle.osc_programs.proofs.Appended.{appends_none}
use Rattle.osc_programs.proofs.Scripts.{no_script_done, no_script_line, no_script_sim, no_script_words, of_known}
use Rattle.osc_programs.proofs.Writing.{always_some}
use Rattle.osc_programs.proofs.simulate.run.Goals as goal

pub returns-in-Ok-clause-done : goal.returns-in-Ok-clause-done
returns-in-Ok-clause-done g c = λ done.
    let P = λ (script : List ℕ). (text : List ℕ) × Simulates c.args.form c.args.only script text
    × Appends (g.W.Write.contents c.args.writer.now) (g.W.Write.contents c.run_script.new.writer) text in
    of_known (g.R.Read.remaining c.args.reader.now) c.in-Ok.script.items P c.in-Ok.ensures.bytes (subst P c.deref.ensures.value (c.run_script.ensures.done done))

pub returns-in-Err-clause-ends : goal.returns-in-Err-clause-ends
returns-in-Err-clause-ends g c = no_script_sim c.in-Err.ended c.in-Err.ensures.ends

pub returns-in-Err-clause-words : goal.returns-in-Err-clause-words
returns-in-Err-clause-words g c = no_script_words c.in-Err.ended c.in-Err.ensures.ends

pub returns-in-Ok-clause-long : goal.returns-in-Ok-clause-long
returns-in-Ok-clause-long g c = λ long. absurd (c.run_script.ensures.whole long)

pub returns-in-Err-clause-bad : goal.returns-in-Err-clause-bad
returns-in-Err-clause-bad g c = λ n bad. absurd (no_script_line c.in-Err.ended c.in-Err.ensures.ends n bad)

pub returns-in-Err-clause-done : goal.returns-in-Err-clause-done
returns-in-Err-clause-done g c = λ done. absurd (no_script_done c.in-Err.ended c.in-Err.ensures.ends done)

pub returns-in-Ok-clause-cut : goal.returns-in-Ok-clause-cut
returns-in-Ok-clause-cut g c = λ cut.
    let told = c.run_script.ensures.cut cut in
    let P = λ (script : List ℕ). CutShort c.args.form script told.0 in
    (told.0, of_known (g.R.Read.remaining c.args.reader.now) c.in-Ok.script.items P c.in-Ok.ensures.bytes (subst P c.deref.ensures.value told.1), told.2)

pub returns-in-Err-clause-cut : goal.returns-in-Err-clause-cut
returns-in-Err-clause-cut g c = λ cut.
    ([], always_some (g.R.Read.remaining c.args.reader.now) (λ (script : List ℕ). CutShort c.args.form script []) (λ script. inl refl), appends_none (g.W.Write.contents c.args.writer.now))
