use Rattle.std.proofs.Common.{◌∙◌, decimal}
use Rattle.std.proofs.lemmas.Result.{IfOk-weaker}
use Rattle.osc_programs.proofs.Printing.{grant_pieces}
use Rattle.osc_programs.proofs.checked.grant_line.Goals as goal

pub returns : goal.returns
returns c = IfOk-weaker c.format.result _ _ (λ text e. e ∙ grant_pieces (decimal c.args.size) (decimal c.args.alg)) c.format.ensures.ok
