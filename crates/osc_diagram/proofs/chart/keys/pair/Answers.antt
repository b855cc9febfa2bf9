use Rattle.std.proofs.Common.{◌∙◌, ap}
use Rattle.std.proofs.lemmas.Result.{IfOk-weaker}
use Rattle.hex.specs.Hex.{encode_lower}
use Rattle.osc_diagram.proofs.chart.Lines.{pair_pieces}
use Rattle.osc_diagram.proofs.chart.keys.pair.Goals as goal

pub returns : goal.returns
returns c =
    IfOk-weaker c.format.result _ _
    (λ text e. e ∙ pair_pieces _ _ c.args.first.now c.args.second.now (c.in_ok-first.ensures ∙ ap encode_lower c.as_slice.ensures) (c.in_ok-second.ensures ∙ ap encode_lower c.as_slice-2.ensures))
    c.format.ensures.ok
