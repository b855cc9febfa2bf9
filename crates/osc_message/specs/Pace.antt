-- How many confirmable messages may be outstanding to a peer at once (RFC 7252 section 4.7): more than one only where congestion is controlled.
-- So once a message was sent again, one at a time, until a message to the peer that was sent once is acknowledged.
use Rattle.std.specs.Prelude.{ℕ, ◌+◌, Bool, false, ◌&&◌, ◌||◌, not, nat_eq, nat_lt, if◌then◌else◌, List, [], ◌∷◌, ◌++◌, filter, take, Option, Some, None}
use Rattle.std.specs.List.{list_any}
use Rattle.osc_model.specs.{same_peer}
use Rattle.osc_model.specs.declared.bytes.Bytes.{Bytes}
use Rattle.osc_model.specs.declared.node.Moment.{Moment}
use Rattle.osc_model.specs.declared.node.Peer.{Peer}
use Rattle.osc_message.specs.Confirmables.{Sent, Open, is_named, is_to, outstanding, waiting}

-- how many more than one may be outstanding to a peer at once; and the slow peers: a message to them was sent again, and none that was sent
-- once was acknowledged since
pub record Pace : Type 0 where
  pub more : ℕ
  pub slow : List Peer

abbrev pub paced : ℕ → Pace
paced more = record { more = more; slow = [] }

-- ---- how many are allowed

abbrev pub is_slow : Pace → Peer → Bool
is_slow pace peer = list_any (same_peer peer) pace.slow

abbrev pub allowed : Pace → Peer → ℕ
allowed pace peer = 1 + (if is_slow pace peer then 0 else pace.more)

-- ---- one more

-- it goes out at once where none waits for the peer, and fewer are outstanding to it than are allowed
abbrev pub goes_at_once : Pace → Peer → List Open → Bool
goes_at_once pace peer all = nat_eq (waiting peer all) 0 && nat_lt (outstanding peer all) (allowed pace peer)

abbrev pub sent_at : Moment → Bool → Option Sent
sent_at now goes = if goes then Some (record { at = now; repeats = 0 }) else None

abbrev pub with_open : Pace → Moment → Peer → ℕ → ℕ → Bytes → List Open → List Open
with_open pace now to id timeout bytes all =
    all ++ (record { to = to; id = id; timeout = timeout; bytes = bytes; sent = sent_at now (goes_at_once pace to all) }) ∷ []

-- ---- who is slow

abbrev pub others : Peer → List Peer → List Peer
others peer peers = filter (λ other. not (same_peer peer other)) peers

-- a message to this peer is sent again: the newest first, each once, and 64 at most
abbrev pub slowed_for : Peer → Pace → Pace
slowed_for peer pace = if nat_eq pace.more 0 then pace else record pace { slow = take 64 (peer ∷ others peer pace.slow) }

-- .. to each of these, in order
abbrev pub slowed : List Peer → Pace → Pace
slowed [] pace = pace
slowed (peer ∷ later) pace = slowed later (slowed_for peer pace)

abbrev pub was_sent_once : Option Sent → Bool
was_sent_once None = false
was_sent_once (Some sent) = nat_eq sent.repeats 0

-- a message of this name was sent exactly once
abbrev pub has_sent_once : Peer → ℕ → List Open → Bool
has_sent_once peer id all = list_any (λ message. is_named peer id message && was_sent_once message.sent) all

-- this peer acknowledges the message of this ID: where that was sent exactly once, the peer is slow no more
abbrev pub quickened : Peer → ℕ → List Open → Pace → Pace
quickened peer id all pace = if has_sent_once peer id all then record pace { slow = others peer pace.slow } else pace
