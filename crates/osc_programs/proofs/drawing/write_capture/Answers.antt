use Rattle.osc_programs.proofs.drawing.write_capture.Goals as goal

pub returns-in-Ok-clause-done : goal.returns-in-Ok-clause-done
returns-in-Ok-clause-done g c = λ done.
    let told = c.write_both.ensures.done done in
    (c.in-Ok.diagram, c.in-Ok.ensures.diagram, told.0, told.1)
