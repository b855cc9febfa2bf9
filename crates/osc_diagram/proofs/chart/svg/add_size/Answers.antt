use Rattle.std.proofs.Common.{◌∙◌, codes}
use Rattle.osc_diagram.specs.Chart.Picture.{size_text}
use Rattle.osc_diagram.proofs.chart.Pieces.{four_numbers}
use Rattle.osc_diagram.proofs.chart.svg.add_size.Goals as goal

pub returns : goal.returns
unfolding size_text
returns c =
    c.in_ok-extend_from_slice.ensures.items ∙ four_numbers _ _ _ _ _ (codes " viewBox=\"0 0 ") (codes " ") (codes "\" width=\"") (codes "\" height=\"") (codes "\">\n") _ _ _ _
    c.in_ok-add_number.ensures c.in_ok-add_number-2.ensures c.in_ok-add_number-3.ensures c.in_ok-add_number-4.ensures
