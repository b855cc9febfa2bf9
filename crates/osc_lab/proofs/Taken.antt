-- What a node's turn took from its port.
use Rattle.std.proofs.Common.{◌≡◌, ◌∙◌, ℕ, Bool, true, false, List, ◌∷◌, [], Option, Some, ap, subst, sym, take}
use Rattle.osc_model.specs.declared.node.Peer.{Peer}
use Rattle.osc_turn.specs.{CameIn, Received, grown, received_in}

-- where no tick is due the port was asked
pub given_by : (due : Bool) (got : Option (Peer × ℕ)) (from : Peer) (len : ℕ) (buffer : List ℕ) (before after : Option (List (Option Received)))
    → due ≡ false → got ≡ Some (from, len) → after ≡ grown before (received_in buffer got ∷ []) → CameIn due (Some (from, take len buffer)) before after
given_by true got from len buffer before after idle is e = absurd cc
given_by false got from len buffer before after idle is e = e ∙ ap (λ (given : Option (Peer × ℕ)). grown before (received_in buffer given ∷ [])) is

-- what a port tells after more that receives nothing
pub came_as : (due : Bool) (came : Option Received) (before after last : Option (List (Option Received))) → CameIn due came before after → last ≡ after
    → CameIn due came before last
came_as due came before after last c e = subst (λ (told : Option (List (Option Received))). CameIn due came before told) (sym e) c
