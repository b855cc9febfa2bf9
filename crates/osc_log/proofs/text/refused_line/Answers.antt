use Rattle.std.proofs.Common.{◌∙◌}
use Rattle.std.proofs.lemmas.Result.{IfOk-weaker}
use Rattle.osc_model.specs.{code_text}
use Rattle.osc_log.proofs.Printing.{refused_pieces}
use Rattle.osc_log.proofs.text.refused_line.Goals as goal

pub returns : goal.returns
returns c = IfOk-weaker c.format.result _ _ (λ text e. e ∙ refused_pieces (code_text c.args.refused.code.0) _ _ c.in_ok-why.ensures) c.format.ensures.ok
