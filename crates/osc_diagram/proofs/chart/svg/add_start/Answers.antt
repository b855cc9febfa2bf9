use Rattle.std.proofs.Common.{◌∙◌, codes}
use Rattle.std.proofs.lemmas.Result.{IfOk-weaker}
use Rattle.osc_diagram.specs.Chart.Picture.{text_start}
use Rattle.osc_diagram.proofs.chart.Pieces.{words_and_numbers}
use Rattle.osc_diagram.proofs.chart.svg.add_start.Goals as goal

pub returns : goal.returns
unfolding text_start
returns c =
    IfOk-weaker c.add_number-2.result _ _
    (λ _ e. e ∙ words_and_numbers _ _ _ _ (codes "<text class=\"") _ _ (codes "\" x=\"") (codes "\" y=\"") _ _ c.as_bytes.ensures.value
    c.in_ok-extend_from_slice.ensures.items c.in_ok-extend_from_slice-2.ensures.items c.in_ok-add_number.ensures) c.add_number-2.ensures
