use Rattle.std.proofs.Common.{◌∙◌}
use Rattle.std.proofs.lemmas.Result.{IfOk-weaker}
use Rattle.osc_lab.proofs.Printing.{learnt_pieces}
use Rattle.osc_lab.proofs.telling.told_line.Goals as goal

pub returns : goal.returns
returns c = IfOk-weaker c.format.result _ _ (λ text e. e ∙ learnt_pieces c.args.client.now _ _ c.in_ok-learnt.ensures) c.format.ensures.ok
