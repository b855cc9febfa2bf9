-- A chart as text: a line of names, and then a line for each mark, in order.
use Rattle.std.specs.Prelude.{ℕ, zero, suc, ◌-◌, List, [], ◌∷◌, ◌++◌, codes, decimal, flat_map, length}
use Rattle.osc_diagram.specs.Chart.Chart.{column_of}
use Rattle.osc_diagram.specs.Chart.Drawing.{cells}
use Rattle.osc_diagram.specs.Chart.Label.{label, number_text}
use Rattle.osc_diagram.specs.declared.chart.chart.Arrow.{Arrow}
use Rattle.osc_diagram.specs.declared.chart.chart.Column.{Column}
use Rattle.osc_diagram.specs.declared.chart.chart.Mark.{Mark}
use Rattle.osc_diagram.specs.declared.chart.chart.Mark.TheVariants as mark
use Rattle.osc_diagram.specs.declared.chart.drawing.Stroke.{Stroke}
use Rattle.osc_diagram.specs.declared.chart.drawing.Stroke.TheVariants as stroke

abbrev pub spaces : ℕ → List ℕ
spaces zero = []
spaces (suc n) = spaces n ++ 32 ∷ []

-- after spaces, so that it is so long at least
abbrev pub behind_spaces : ℕ → List ℕ → List ℕ
behind_spaces width text = spaces (width - length text) ++ text

-- a line: what is before the columns, what goes over these, and what it says
abbrev pub drawn : List Column → List ℕ → Stroke → List ℕ → List ℕ
drawn columns margin stroke label = behind_spaces 4 margin ++ codes "   " ++ cells stroke (length columns) ++ label ++ 10 ∷ []

-- where an arrow goes
abbrev pub stroke_of : List Column → Arrow → Stroke
stroke_of columns arrow = stroke.Line (column_of columns arrow.from) (column_of columns arrow.to) arrow.arrives

abbrev pub mark_line : List Column → Mark → List ℕ
mark_line columns (mark.Arrow arrow) = drawn columns (number_text arrow.way) (stroke_of columns arrow) (label arrow)
mark_line columns (mark.Note at text) = drawn columns [] (stroke.Dot (column_of columns at)) text
mark_line columns (mark.Time moment) = drawn columns [] stroke.Nothing (codes "at " ++ decimal moment.ms ++ codes " ms")

-- the names, each of which ends at its column's line
abbrev pub name_cell : Column → List ℕ
name_cell column = behind_spaces 8 column.name.now

abbrev pub chart_text : List Column → List Mark → List ℕ
chart_text columns marks = flat_map name_cell columns ++ 10 ∷ flat_map (mark_line columns) marks
