-- The pieces of a line, one after the other.
use Rattle.std.proofs.Common.{◌≡◌, ℕ, List, [], ◌∷◌, ◌++◌, codes, append_assoc}
use Rattle.osc_simulation.specs.{line}

pub value_pieces : (a b x y : List ℕ) → a ≡ x → b ≡ y → a ++ (codes " " ++ b) ≡ x ++ codes " " ++ y
value_pieces a b x y e f = rw (e, f) (simp append_assoc)
