use Rattle.osc_programs.proofs.drawing.draw_script.Goals as goal

pub returns-in-Ok-clause-done : goal.returns-in-Ok-clause-done
returns-in-Ok-clause-done g c = λ done. (c.in-Ok.diagram, c.in-Ok.ensures.diagram, c.write_diagram.ensures.done done)
