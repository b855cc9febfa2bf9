-- What is taken of an input, piece by piece.
use Rattle.std.proofs.Common.{◌∙◌, ◌++◌, List, Option, Some, None, Result, Ok, Err, IfOk, ap, append_assoc, sym, ℕ}
use Rattle.std.specs.Io.KnownBytes.{Consumes}

pub takes_more : (old mid new : Option (List ℕ)) (bytes more : List ℕ) → Consumes old mid bytes → Consumes mid new more → Consumes old new (bytes ++ more)
takes_more None mid new bytes more h k = tt
takes_more (Some xs) None new bytes more h k = absurd h
takes_more (Some xs) (Some ys) None bytes more h k = absurd k
takes_more (Some xs) (Some ys) (Some zs) bytes more h k = h ∙ (ap (λ rest. bytes ++ rest) k ∙ sym (append_assoc bytes more zs))

-- what is so whatever comes is so where all went well
pub always_ok : {A E : Type 0} {P : Type 0} (r : Result A E) → P → IfOk r (λ x. P)
always_ok (Ok a) p = p
always_ok (Err e) p = tt
