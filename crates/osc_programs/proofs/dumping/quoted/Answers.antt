use Rattle.std.proofs.Common.{subst, sym}
use Rattle.osc_model.specs.{IsPath}
use Rattle.osc_programs.proofs.PathTexts.{path_is_utf8}
use Rattle.osc_programs.proofs.dumping.quoted.Goals as goal

pub unreachable-requires : goal.unreachable-requires
unreachable-requires c = c.in-Err.ensures.cases.0 (path_is_utf8 c.text.result.now (subst IsPath (sym c.text.ensures.text) c.text.ensures.path))
