-- The open messages as a node keeps them, each with its place among those that are open to its peer: no public contract names them.
use Rattle.std.specs.Prelude.{◌≡◌, ℕ, ◌+◌, ◌<◌, true, if◌then◌else◌, List, [], ◌∷◌, map, None}
use Rattle.osc_model.specs.declared.node.Peer.{Peer}
use Rattle.osc_message.specs.declared.queued.Queued.{Queued}
use Rattle.osc_message.specs.Confirmables.{Open, is_to, outstanding, waiting}
use Rattle.osc_message.specs.Pace.{Pace}
use Rattle.osc_message.specs.Bounds.{IsSound}

abbrev pub messages : List Queued → List Open
messages queue = map (λ queued. queued.message) queue

-- how many are open to the peer up to this one, where `before` were before it
abbrev pub place_after : Peer → ℕ → Open → ℕ
place_after peer before message = if is_to peer message then before + 1 else before

-- the place of each message to the peer is how many are open to it that were made before, where `before` are before these
abbrev pub IsPlacedFor : Peer → ℕ → List Queued → Type 0
IsPlacedFor peer before [] = Unit {0}
IsPlacedFor peer before (queued ∷ later) = (is_to peer queued.message ≡ true → queued.place ≡ before) × IsPlacedFor peer (place_after peer before queued.message) later

abbrev pub ArePlaced : List Queued → Type 0
ArePlaced queue = (peer : Peer) → IsPlacedFor peer 0 queue

-- where it waits, its place is how many are outstanding to its peer, and how many wait for it that were made before
abbrev pub HasPlace : List Open → List Open → Queued → Type 0
HasPlace all earlier queued = queued.message.sent ≡ None → queued.place ≡ outstanding queued.message.to all + waiting queued.message.to earlier

-- it waits, and another to its peer is before it
pub record IsIdle (queued : Queued) : Type 0 where
  pub waits : queued.message.sent ≡ None
  pub later : 0 < queued.place

-- what holds of them at all times
pub record IsSoundQueue (pace : Pace) (queue : List Queued) : Type 0 where
  pub sound : IsSound pace (messages queue)
  pub placed : ArePlaced queue

-- ---- placed again, for one peer

abbrev pub placed_one : Peer → ℕ → Queued → Queued
placed_one peer before queued = if is_to peer queued.message then record queued { place = before } else queued

abbrev pub placed : Peer → ℕ → List Queued → List Queued
placed peer before [] = []
placed peer before (queued ∷ later) = placed_one peer before queued ∷ placed peer (place_after peer before queued.message) later
