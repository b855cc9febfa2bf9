-- The pieces of a line, one after the other.
use Rattle.std.proofs.Common.{◌≡◌, ℕ, List, [], ◌∷◌, ◌++◌, append_assoc, codes}
use Rattle.osc_simulation.specs.{line}

pub address_pieces : (name address : List ℕ) → name ++ (codes " " ++ (address ++ 10 ∷ [])) ≡ line (name ++ codes " " ++ address)
address_pieces name address = simp append_assoc

pub grant_pieces : (size alg : List ℕ) → codes "token " ++ (size ++ (codes " bytes, alg " ++ (alg ++ 10 ∷ []))) ≡ line (codes "token " ++ size ++ codes " bytes, alg " ++ alg)
grant_pieces size alg = simp append_assoc
