-- A chart as a picture (SVG 1.1): the columns, and then a group for each mark, in order, from the top down.
use Rattle.std.specs.Prelude.{ℕ, ◌+◌, ◌*◌, ◌/◌, ◌==◌, if◌then◌else◌, Bool, List, [], ◌∷◌, ◌++◌, codes, decimal, flat_map, length, Option, Some, None, slice_get}
use Rattle.osc_diagram.specs.Chart.Chart.{column_of}
use Rattle.osc_diagram.specs.Chart.Label.{label, number_text}
use Rattle.osc_diagram.specs.declared.chart.svg.TheConstants.{HEAD, ROOT, STYLE}
use Rattle.osc_diagram.specs.declared.chart.chart.Arrow.{Arrow}
use Rattle.osc_diagram.specs.declared.chart.chart.Column.{Column}
use Rattle.osc_diagram.specs.declared.chart.chart.Mark.{Mark}
use Rattle.osc_diagram.specs.declared.chart.chart.Mark.TheVariants as mark
use Rattle.osc_diagram.specs.declared.chart.chart.Way.{Way}
use Rattle.osc_diagram.specs.declared.chart.chart.Way.TheVariants.{Sent, Again, Forged}

-- ---- where things are

-- the line of a column, and the middle of a row
abbrev pub x_of : ℕ → ℕ
x_of column = 70 + 90 * column

abbrev pub y_of : ℕ → ℕ
y_of row = 60 + 22 * row

-- where what an arrow says begins
abbrev pub label_x : List Column → ℕ
label_x columns = 20 + 90 * length columns

-- an arrow that doesn't arrive ends after three quarters of its way
abbrev pub end_x : ℕ → ℕ → Bool → ℕ
end_x from to arrives = if arrives then x_of to else (x_of from + 3 * x_of to) / 4

-- ---- texts

-- what stands for a byte in a text of XML
abbrev pub escaped_byte : ℕ → List ℕ
escaped_byte byte = if byte == 38 then codes "&amp;" else if byte == 60 then codes "&lt;" else if byte == 62 then codes "&gt;" else byte ∷ []

unfoldable pub escaped : List ℕ → List ℕ
escaped text = flat_map escaped_byte text

-- the start of a text at a place, of this class
unfoldable pub text_start : List ℕ → ℕ → ℕ → List ℕ
text_start class x y = codes "<text class=\"" ++ class ++ codes "\" x=\"" ++ decimal x ++ codes "\" y=\"" ++ decimal y

unfoldable pub text_at : List ℕ → ℕ → ℕ → List ℕ → List ℕ
text_at class x y text = text_start class x y ++ codes "\">" ++ escaped text ++ codes "</text>"

abbrev pub name_in : Option Column → List ℕ
name_in None = codes "?"
name_in (Some column) = column.name.now

-- the name of a column, or `?`
abbrev pub name_of : List Column → ℕ → List ℕ
name_of columns column = name_in (slice_get columns column)

-- ---- an arrow

abbrev pub way_class : Way → List ℕ
way_class (Sent number) = codes "sent"
way_class (Again number) = codes "again"
way_class Forged = codes "forged"

abbrev pub end_class : Bool → List ℕ
end_class arrives = if arrives then codes " in" else codes " lost"

-- to its end, or round to where it begins
unfoldable pub path_to : ℕ → ℕ → Bool → List ℕ
path_to from to arrives = if from == to then codes "h36v9h-30" else codes "H" ++ decimal (end_x from to arrives)

unfoldable pub class_of : Arrow → List ℕ
class_of arrow = codes "<path class=\"" ++ way_class arrow.way ++ end_class arrow.arrives

-- from a column to another, in a row
unfoldable pub line_between : Arrow → ℕ → ℕ → ℕ → List ℕ
line_between arrow from to row =
    class_of arrow ++ codes "\" d=\"M" ++ decimal (x_of from) ++ codes " " ++ decimal (y_of row)
    ++ path_to from to arrow.arrives ++ codes "\"/>"

-- who sends it to whom
unfoldable pub title_of : List Column → ℕ → ℕ → List ℕ
title_of columns from to = codes "<title>" ++ name_of columns from ++ codes " to " ++ name_of columns to ++ codes "</title>"

unfoldable pub arrow_group : List Column → ℕ → Arrow → List ℕ
arrow_group columns row arrow =
    title_of columns (column_of columns arrow.from) (column_of columns arrow.to)
    ++ line_between arrow (column_of columns arrow.from) (column_of columns arrow.to) row
    ++ text_at (codes "number") 30 (y_of row + 4) (number_text arrow.way)
    ++ text_at (codes "label") (label_x columns) (y_of row + 4) (label arrow)

-- ---- a row

-- a dot at a column
unfoldable pub dot_at : ℕ → ℕ → List ℕ
dot_at column row = codes "<circle cx=\"" ++ decimal (x_of column) ++ codes "\" cy=\"" ++ decimal (y_of row) ++ codes "\" r=\"4\"/>"

unfoldable pub mark_group : List Column → ℕ → Mark → List ℕ
mark_group columns row (mark.Arrow arrow) = arrow_group columns row arrow
mark_group columns row (mark.Note at text) =
    dot_at (column_of columns at) row ++ text_at (codes "note") (label_x columns) (y_of row + 4) text
mark_group columns row (mark.Time moment) = text_at (codes "time") (label_x columns) (y_of row + 4) (codes "at " ++ decimal moment.ms ++ codes " ms")

-- the group of a mark in a row
unfoldable pub group : List Column → ℕ → Mark → List ℕ
group columns row mark = codes "<g>" ++ mark_group columns row mark ++ codes "</g>\n"

-- a group for each mark, of which the first is in this row
abbrev pub groups : List Column → ℕ → List Mark → List ℕ
groups columns row [] = []
groups columns row (mark ∷ marks) = group columns row mark ++ groups columns (row + 1) marks

-- ---- the columns

-- its name, and its line down to this height
unfoldable pub column_at : ℕ → ℕ → Column → List ℕ
column_at height number column =
    text_at (codes "name") (x_of number) 30 column.name.now ++ codes "<path class=\"line\" d=\"M" ++ decimal (x_of number) ++ codes " 40V" ++ decimal height ++ codes "\"/>\n"

abbrev pub columns_from : ℕ → ℕ → List Column → List ℕ
columns_from height number [] = []
columns_from height number (column ∷ columns) = column_at height number column ++ columns_from height (number + 1) columns

-- ---- the picture

-- how wide and how high it is
abbrev pub width_of : List Column → ℕ
width_of columns = label_x columns + 560

unfoldable pub size_text : ℕ → ℕ → List ℕ
size_text width height =
    codes " viewBox=\"0 0 " ++ decimal width ++ codes " " ++ decimal height ++ codes "\" width=\"" ++ decimal width ++ codes "\" height=\"" ++ decimal height ++ codes "\">\n"

abbrev pub picture : List Column → List Mark → List ℕ
picture columns marks =
    ROOT.now ++ size_text (width_of columns) (y_of (length marks)) ++ HEAD.now ++ STYLE.now ++ columns_from (y_of (length marks)) 0 columns ++ groups columns 0 marks
    ++ codes "</svg>\n"
