use Rattle.std.proofs.Common.{◌∙◌}
use Rattle.std.proofs.lemmas.Result.{IfOk-weaker}
use Rattle.osc_lab.proofs.Printing.{open_pieces}
use Rattle.osc_lab.proofs.telling.open_line.Goals as goal

pub returns : goal.returns
returns c = IfOk-weaker c.format.result _ _ (λ text e. e ∙ open_pieces c.args.client.now) c.format.ensures.ok
