-- Confirmable messages that are open, in the order in which they were made (RFC 7252 sections 4.2, 4.7 and 4.8).
use Rattle.std.specs.Prelude.{ℕ, Bool, ◌&&◌, not, nat_eq, nat_lt, if◌then◌else◌, List, [], ◌∷◌, length, filter, count_by, is_some}
use Rattle.std.specs.List.{list_any}
use Rattle.osc_model.specs.{same_peer}
use Rattle.osc_model.specs.declared.node.Peer.{Peer}
use Rattle.osc_message.specs.declared.confirmable.Sent.{Sent as SentMessage}
use Rattle.osc_message.specs.declared.confirmable.Open.{Open as OpenMessage}

-- the state of a message that went out: when it first went out, and how often it was retransmitted since
abbrev pub Sent : Type 0
Sent = SentMessage

-- A message that is open: outstanding since it went out, or waiting until then; with its peer, its message ID, its initial
-- timeout in ms and its bytes
abbrev pub Open : Type 0
Open = OpenMessage

abbrev pub is_to : Peer → Open → Bool
is_to peer message = same_peer peer message.to

abbrev pub is_outstanding : Open → Bool
is_outstanding message = is_some message.sent

-- one is open to the peer; one is outstanding
abbrev pub has_open : Peer → List Open → Bool
has_open peer all = list_any (is_to peer) all

abbrev pub has_outstanding : Peer → List Open → Bool
has_outstanding peer all = list_any (λ message. is_to peer message && is_outstanding message) all

-- how many are outstanding to the peer, and how many wait for it
abbrev pub outstanding : Peer → List Open → ℕ
outstanding peer all = count_by (λ message. is_to peer message && is_outstanding message) all

abbrev pub waiting : Peer → List Open → ℕ
waiting peer all = count_by (λ message. is_to peer message && not (is_outstanding message)) all

-- the peers that have one open, each once
abbrev pub peers_of : List Open → List Peer
peers_of [] = []
peers_of (message ∷ later) = message.to ∷ filter (λ peer. not (same_peer message.to peer)) (peers_of later)

-- ---- one more

-- Up to 16 wait for a peer; 64 peers may have one open.
abbrev pub takes : Peer → List Open → Bool
takes peer all = if has_open peer all then nat_lt (waiting peer all) 16 else nat_lt (length (peers_of all)) 64

-- the same with `places` places for messages in all
abbrev pub takes_in : ℕ → Peer → List Open → Bool
takes_in places peer all = takes peer all && nat_lt (length all) places

-- ---- acknowledged, by its peer and its message ID: its repeats end (section 4.2)

abbrev pub is_named : Peer → ℕ → Open → Bool
is_named peer id message = is_to peer message && nat_eq id message.id

abbrev pub acknowledged : Peer → ℕ → List Open → List Open
acknowledged peer id all = filter (λ message. not (is_named peer id message)) all
