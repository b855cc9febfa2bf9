-- Which peers a port with several sockets heard lately, and at which of them.
use Rattle.std.specs.Prelude.{ℕ, nat_lt, List, [], ◌∷◌, length, is_some, Option, if◌then◌else◌}
use Rattle.std.specs.Map.{lookup}
use Rattle.std.specs.Option.{option_or}
use Rattle.indexmap.specs.IndexMap.{insert_entry}
use Rattle.osc_model.specs.Peer.{same_peer}
use Rattle.osc_model.specs.declared.node.Peer.{Peer}

-- how many peers are in each half
abbrev pub half : ℕ
half = 256

-- the peers that were heard last, each with the number of the socket where that was, and those that were heard before
pub record Heard : Type 0 where
  pub recent : List (Peer × ℕ)
  pub earlier : List (Peer × ℕ)

abbrev pub none_heard : Heard
none_heard = record { recent = []; earlier = [] }

-- the number of the socket at which the peer was heard last, where that is known
abbrev pub heard_at : Heard → Peer → Option ℕ
heard_at heard peer = option_or (lookup (same_peer peer) heard.recent) (lookup (same_peer peer) heard.earlier)

-- the peer was heard at this socket, and has its place among the recent
abbrev pub among_recent : Peer → ℕ → Heard → Heard
among_recent peer number heard = record heard { recent = insert_entry same_peer heard.recent peer number }

-- a peer that isn't among the recent: where these are full, they are the earlier ones from then on, and it is the first of the recent
abbrev pub with_new : Peer → ℕ → Heard → Heard
with_new peer number heard =
    if nat_lt (length heard.recent) half then among_recent peer number heard else record { recent = (peer, number) ∷ []; earlier = heard.recent }

-- the peer was heard at this socket
abbrev pub with_heard : Peer → ℕ → Heard → Heard
with_heard peer number heard = if is_some (lookup (same_peer peer) heard.recent) then among_recent peer number heard else with_new peer number heard
