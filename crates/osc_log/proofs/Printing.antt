-- The pieces of a line, one after the other.
use Rattle.std.proofs.Common.{◌≡◌, ℕ, List, ◌++◌, append_assoc, codes}
use Rattle.osc_log.specs.LineEnd.{line}

pub left_out_pieces : (ms count words words-is : List ℕ) → words ≡ words-is → ms ++ (codes " left out " ++ (count ++ (codes " " ++ (words ++ codes "\n")))) ≡ line (ms ++ codes " left out " ++ count ++ codes " " ++ words-is)
left_out_pieces ms count words words-is e = rw e (simp append_assoc)

pub refused_pieces : (code why why-is : List ℕ) → why ≡ why-is → codes "refused " ++ (code ++ (codes ": " ++ why)) ≡ codes "refused " ++ code ++ codes ": " ++ why-is
refused_pieces code why why-is e = rw e (simp append_assoc)

pub who_pieces : (ms peer : List ℕ) → ms ++ (codes " " ++ (peer ++ codes " ")) ≡ ms ++ codes " " ++ peer ++ codes " "
who_pieces ms peer = simp append_assoc
