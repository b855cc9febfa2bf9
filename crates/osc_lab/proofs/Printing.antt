-- The pieces of a line, one after the other.
use Rattle.std.proofs.Common.{◌≡◌, ℕ, List, [], ◌∷◌, ◌++◌, append_assoc, codes}
use Rattle.osc_simulation.specs.{line}

pub learnt_pieces : (client learnt learnt-is : List ℕ) → learnt ≡ learnt-is
    → client ++ (codes " " ++ (learnt ++ 10 ∷ [])) ≡ line (client ++ codes " " ++ learnt-is)
learnt_pieces client learnt learnt-is e = rw e (simp append_assoc)

pub open_pieces : (client : List ℕ) → client ++ (codes " open" ++ 10 ∷ []) ≡ line (client ++ codes " open")
open_pieces client = simp append_assoc
