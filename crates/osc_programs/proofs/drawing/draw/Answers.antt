use Rattle.std.proofs.Common.{subst}
use Rattle.osc_programs.specs.Written.{IsBegun, last_line}
use Rattle.osc_programs.proofs.drawing.draw.Goals as goal

pub returns-in-OutOfMemory-clause-cut : goal.returns-in-OutOfMemory-clause-cut
returns-in-OutOfMemory-clause-cut g c = λ out.
    subst (λ writer. IsBegun last_line (g.W.Write.contents writer) (g.W.Write.contents c.told_last.new.writer)) (c.run.ensures.cut c.in-OutOfMemory.is) c.told_last.ensures.last
