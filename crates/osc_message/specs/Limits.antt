-- How many confirmable messages are open at most, and in which order they go out (RFC 7252 section 4.7).
use Rattle.std.specs.Prelude.{◌≡◌, ◌+◌, ◌≤◌, true, ◌&&◌, not, List, [], ◌∷◌, length}
use Rattle.osc_model.specs.declared.node.Peer.{Peer}
use Rattle.osc_message.specs.Confirmables.{Open, is_to, is_outstanding, outstanding, waiting, peers_of}
use Rattle.osc_message.specs.Pace.{Pace}

-- nothing overtakes: of those that were made after one that waits for the peer, none is outstanding to it
abbrev pub IsInOrder : Peer → List Open → Type 0
IsInOrder peer [] = Unit {0}
IsInOrder peer (message ∷ later) = ((is_to peer message && not (is_outstanding message)) ≡ true → outstanding peer later ≡ 0) × IsInOrder peer later

-- At most one, and as many more as the pace says, are outstanding to a peer, at most 16 wait for a peer, and at most 64 peers have one open;
-- what waits for a peer goes out in order.
pub record IsWithinLimits (pace : Pace) (all : List Open) : Type 0 where
  pub outstanding_each : (peer : Peer) → outstanding peer all ≤ 1 + pace.more
  pub waiting_each : (peer : Peer) → waiting peer all ≤ 16
  pub peers : length (peers_of all) ≤ 64
  pub in_order : (peer : Peer) → IsInOrder peer all
