-- What is minted, once one grant more is.
use Rattle.std.proofs.Common.{◌≡◌, refl, inl, inr, ℕ, List, [], ◌∷◌, ◌++◌}
use Rattle.osc_authz.specs.{In}
use Rattle.osc_run.specs.{IsMinted, Minted}

here_last : (all : List Minted) (one : Minted) → In one (all ++ one ∷ [])
here_last [] one = inl refl
here_last (first ∷ all) one = inr (here_last all one)

still_here : (all : List Minted) (one it : Minted) → In it all → In it (all ++ one ∷ [])
still_here [] one it here = absurd here
still_here (first ∷ all) one it (inl same) = inl same
still_here (first ∷ all) one it (inr later) = inr (still_here all one it later)

pub last_is_minted : (all : List Minted) (one : Minted) (text : List ℕ) → one.text ≡ text → IsMinted (all ++ one ∷ []) text
last_is_minted all one text is = (one, here_last all one, is)

pub more_is_minted : (all : List Minted) (one : Minted) (text : List ℕ) → IsMinted all text → IsMinted (all ++ one ∷ []) text
more_is_minted all one text minted = (minted.0, still_here all one minted.0 minted.1, minted.2)
