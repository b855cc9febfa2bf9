-- What is lost.
use Rattle.std.proofs.Common.{◌≡◌, ◌∷◌, [], ℕ, IsSome, List, None, Option, Some, take}
use Rattle.osc_model.specs.declared.node.Peer.{Peer}
use Rattle.osc_turn.specs.{Received, grown, received_in, HasLost}

-- what a receive gave and nobody took is lost
pub has_lost : (got : Option (Peer × ℕ)) (buffer : List ℕ) (received received_after : Option (List (Option Received))) (failures failures_after : ℕ) → IsSome got
    → received_after ≡ grown received (received_in buffer got ∷ []) → failures_after ≡ failures → HasLost received received_after failures failures_after
has_lost (Some datagram) buffer received received_after failures failures_after some lost not_counted = record {
  came = (datagram.0, take datagram.1 buffer);
  lost = lost;
  not_counted = not_counted;
}
has_lost None buffer received received_after failures failures_after some lost not_counted = absurd cc
