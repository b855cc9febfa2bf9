-- A window as its greatest number and a bit for each number that it spans.
use Rattle.std.specs.Prelude.{ℕ, ◌+◌, ◌-◌, Bool, nat_eq, List, filter}
use Rattle.std.specs.Int.{bit_at}
use Rattle.std.specs.List.{range_with_len}
use Rattle.osc_window.specs.Window.{width}

-- whether the bit of a number is set: that of the greatest less i is bit i
abbrev pub is_marked : ℕ → ℕ → ℕ → Bool
is_marked greatest bits m = nat_eq (bit_at bits (greatest - m)) 1

-- the least number that the window spans
abbrev pub least_below : ℕ → ℕ
least_below greatest = (greatest + 1) - width

-- the numbers of the bits that are set, rising
unfoldable pub numbers_of : ℕ → ℕ → List ℕ
numbers_of greatest bits =
    let least = least_below greatest in filter (is_marked greatest bits) (range_with_len least ((greatest + 1) - least))
