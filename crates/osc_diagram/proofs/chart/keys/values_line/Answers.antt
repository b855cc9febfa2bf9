use Rattle.std.proofs.Common.{◌∙◌}
use Rattle.std.proofs.lemmas.Result.{IfOk-weaker}
use Rattle.osc_diagram.proofs.chart.Lines.{values_pieces}
use Rattle.osc_diagram.proofs.chart.keys.values_line.Goals as goal

pub returns : goal.returns
returns c =
    IfOk-weaker c.format.result _ _
    (λ line e. e ∙ values_pieces _ _ _ _ _ _ c.in_ok-ids.ensures c.in_ok-secrets.ensures c.in_ok-id_context.ensures)
    c.format.ensures.ok
