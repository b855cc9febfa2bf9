-- What is at a column in a line of a chart.
use Rattle.std.specs.Prelude.{ℕ, zero, suc, ◌+◌, ◌==◌, nat_lt, nat_le, ◌&&◌, if◌then◌else◌, Bool, List, [], ◌++◌, codes}
use Rattle.osc_diagram.specs.declared.chart.drawing.Stroke.{Stroke}
use Rattle.osc_diagram.specs.declared.chart.drawing.Stroke.TheVariants.{Nothing, Dot, Line}

-- 8 letters: the first is on the column's line, and the others are on the way to the next column. A datagram that doesn't arrive ends in `x`.
abbrev pub idle : List ℕ
idle = codes "|       "

-- it goes from a column to itself
abbrev pub turn : Bool → List ℕ
turn arrives = if arrives then codes "|<--.   " else codes "|x--.   "

-- it goes to the right, from a column to the one before which it ends
abbrev pub to_the_right : Bool → Bool → Bool → List ℕ
to_the_right begins ends arrives =
    if ends then (if arrives then (if begins then codes "|------>" else codes "------->") else (if begins then codes "|-----x " else codes "------x "))
    else (if begins then codes "|-------" else codes "--------")

-- it goes to the left
abbrev pub to_the_left : Bool → Bool → List ℕ
to_the_left ends arrives = if ends then (if arrives then codes "|<------" else codes "| x-----") else codes "--------"

-- what is at the column of this number
abbrev pub cell : Stroke → ℕ → List ℕ
cell Nothing i = idle
cell (Dot at) i = if i == at then codes "*       " else idle
cell (Line from to arrives) i =
    if from == to then (if i == from then turn arrives else idle)
    else if nat_lt from to then (if nat_le from i && nat_lt i to then to_the_right (i == from) (i + 1 == to) arrives else idle)
    else (if nat_le to i && nat_lt i from then to_the_left (i == to) arrives else idle)

-- what is at this number of columns
abbrev pub cells : Stroke → ℕ → List ℕ
cells stroke zero = []
cells stroke (suc n) = cells stroke n ++ cell stroke n
