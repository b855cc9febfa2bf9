-- A device: a server, and the device itself as a client of it.
use Rattle.std.specs.Prelude.{[], ◌∷◌}
use Rattle.osc_model.specs.{v4_peer}
use Rattle.osc_model.specs.declared.node.Peer.{Peer}
use Rattle.osc_client.specs.State.{State as Client}
use Rattle.osc_server.specs.State.{State as Server}

pub record State : Type 0 where
  pub server : Server
  pub own : Client

-- the address of each of the two for the other: no datagram goes there on a network
abbrev pub own_address : Peer
own_address = v4_peer (0 ∷ 0 ∷ 0 ∷ 0 ∷ []) 0

abbrev pub server_address : Peer
server_address = v4_peer (0 ∷ 0 ∷ 0 ∷ 0 ∷ []) 1
