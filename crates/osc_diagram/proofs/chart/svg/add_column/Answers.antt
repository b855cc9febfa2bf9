use Rattle.std.proofs.Common.{◌∙◌, ap₂, codes}
use Rattle.osc_diagram.specs.Chart.Picture.{column_at, text_at}
use Rattle.osc_diagram.proofs.chart.Pieces.{piece_and_numbers}
use Rattle.osc_diagram.proofs.chart.svg.add_column.Goals as goal

pub returns : goal.returns
unfolding column_at
returns c =
    c.in_ok-extend_from_slice.ensures.items ∙ piece_and_numbers _ _ _ _ _ _ (codes "<path class=\"line\" d=\"M") (codes " 40V") (codes "\"/>\n") _ _ _
    (ap₂ (λ x text. text_at (codes "name") x 30 text) c.x_of-x.ensures c.as_bytes.ensures.value) c.x_of-x.ensures c.in_ok-add_text.ensures
    c.in_ok-add_number.ensures c.in_ok-add_number-2.ensures
