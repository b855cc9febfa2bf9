use Rattle.std.proofs.Common.{sym}
use Rattle.osc_lab.proofs.run.lab_of.Goals as goal

pub returns-in-Err-clause-early : goal.returns-in-Err-clause-early
returns-in-Err-clause-early g c = λ no_end. rw (sym c.lines.ensures) c.in-Err.ensures.early
