-- Who has a column in a chart.
use Rattle.std.specs.Prelude.{ℕ, ◌||◌, Bool, false, List, length, unwrap_or, position}
use Rattle.std.specs.List.{list_any}
use Rattle.osc_model.specs.{same_peer}
use Rattle.osc_model.specs.declared.node.Peer.{Peer}
use Rattle.osc_diagram.specs.declared.chart.chart.Column.{Column}
use Rattle.osc_diagram.specs.declared.chart.chart.Mark.{Mark}
use Rattle.osc_diagram.specs.declared.chart.chart.Mark.TheVariants as mark

-- where a column is
abbrev pub stands_at : Peer → Column → Bool
stands_at peer column = same_peer column.at peer

-- the column of a peer, from 0; one after the last, where nobody is there
abbrev pub column_of : List Column → Peer → ℕ
column_of columns peer = unwrap_or (position (stands_at peer) columns) (length columns)

-- a mark begins, ends or is at a column
abbrev pub touches : Column → Mark → Bool
touches column (mark.Arrow arrow) = stands_at arrow.from column || stands_at arrow.to column
touches column (mark.Note at text) = stands_at at column
touches column (mark.Time moment) = false

-- one of the marks does
abbrev pub is_met : List Mark → Column → Bool
is_met marks column = list_any (touches column) marks
