use Rattle.std.proofs.Common.{◌∙◌, codes}
use Rattle.osc_diagram.specs.Chart.Picture.{dot_at}
use Rattle.osc_diagram.proofs.chart.Pieces.{two_numbers}
use Rattle.osc_diagram.proofs.chart.svg.add_dot.Goals as goal

pub returns : goal.returns
unfolding dot_at
returns c =
    c.in_ok-extend_from_slice.ensures.items ∙ two_numbers _ _ _ (codes "<circle cx=\"") (codes "\" cy=\"") (codes "\" r=\"4\"/>") _ _ _ _ c.x_of.ensures c.y_of.ensures c.in_ok-add_number.ensures
    c.in_ok-add_number-2.ensures
