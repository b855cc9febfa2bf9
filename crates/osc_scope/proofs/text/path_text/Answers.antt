use Rattle.osc_scope.proofs.PathLemmas.{path_utf8}
use Rattle.osc_scope.proofs.text.path_text.Goals as goal

pub returns-in-Err-clause-bad : goal.returns-in-Err-clause-bad
returns-in-Err-clause-bad c = λ e path. c.in-Err.ensures.cases.0 (path_utf8 c.args.text.now path)
