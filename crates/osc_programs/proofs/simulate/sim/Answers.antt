use Rattle.osc_programs.specs.Written.{last_line}
use Rattle.osc_programs.proofs.Writing.{begun_after}
use Rattle.osc_programs.proofs.simulate.sim.Goals as goal

pub returns-in-OutOfMemory-clause-cut : goal.returns-in-OutOfMemory-clause-cut
returns-in-OutOfMemory-clause-cut g c = λ out.
    let cut = c.run.ensures.cut c.in-OutOfMemory.is in
    (cut.0, cut.1, begun_after cut.0 last_line _ _ _ cut.2 c.told_last.ensures.last)
