use Rattle.osc_programs.proofs.Writing.{begun_by}
use Rattle.osc_programs.proofs.issue.written.Goals as goal

pub returns-then-write_some-text-clause-begun : goal.returns-then-write_some-text-clause-begun
returns-then-write_some-text-clause-begun g c = begun_by c.args.text.now c.write_some.result _ _ c.write_some.ensures.appends
