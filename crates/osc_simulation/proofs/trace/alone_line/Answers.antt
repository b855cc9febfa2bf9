use Rattle.std.proofs.Common.{◌∙◌, decimal}
use Rattle.std.proofs.lemmas.Result.{IfOk-weaker}
use Rattle.osc_model.specs.{code_text}
use Rattle.osc_simulation.proofs.Printing.{alone_pieces}
use Rattle.osc_simulation.proofs.trace.alone_line.Goals as goal

pub returns : goal.returns
returns c =
    IfOk-weaker c.format.result _ _
    (λ line e. e ∙ alone_pieces _ (decimal c.args.answer.now.0) (code_text c.args.answer.now.1.code.0) _ c.name-client.ensures) c.format.ensures.ok
