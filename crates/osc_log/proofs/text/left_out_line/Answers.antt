use Rattle.std.proofs.Common.{◌∙◌, decimal}
use Rattle.std.proofs.lemmas.Result.{IfOk-weaker}
use Rattle.osc_log.proofs.Printing.{left_out_pieces}
use Rattle.osc_log.proofs.text.left_out_line.Goals as goal

pub returns : goal.returns
returns c = IfOk-weaker c.format.result _ _ (λ text e. e ∙ left_out_pieces (decimal c.args.now.ms) (decimal c.args.count) _ _ c.words-words.ensures) c.format.ensures.ok
