-- The ports of a lab's nodes, and which socket each node has.
use Rattle.std.specs.Prelude.{List, Option, Some, None, slice_get, slice_set}
use Rattle.std.specs.List.{find}
use Rattle.std.specs.Option.{option_map_or}
use Rattle.osc_model.specs.declared.node.Peer.{Peer}
use Rattle.osc_model.specs.declared.step.Datagram.{Datagram}
use Rattle.osc_model.specs.{same_peer}
use Rattle.osc_turn.specs.{Received}
use Rattle.osc_world.specs.declared.nodes.Whose.{Whose}
use Rattle.osc_world.specs.declared.nodes.Whose.TheVariants as whose
use Rattle.osc_lab.specs.declared.port.Known.{Known}
use Rattle.osc_lab.specs.declared.ports.PacedPort.{PacedPort}

-- the server's port, those of the clients and those of the proxies, by their numbers, each with the pace that its node keeps there
pub record Ports (P : Type 0) : Type 0 where
  pub server : PacedPort P
  pub clients : List (PacedPort P)
  pub proxies : List (PacedPort P)

-- that of this node, if there is one
abbrev pub port_of : {P : Type 0} → Ports P → Whose → Option (PacedPort P)
port_of ports whose.Server = Some ports.server
port_of ports (whose.Client number) = slice_get ports.clients number
port_of ports (whose.Proxy number) = slice_get ports.proxies number
port_of ports whose.Nobody = None

-- this one in its place
abbrev pub with_port : {P : Type 0} → Ports P → Whose → PacedPort P → Ports P
with_port ports whose.Server port = record ports { server = port }
with_port ports (whose.Client number) port = record ports { clients = slice_set ports.clients number port }
with_port ports (whose.Proxy number) port = record ports { proxies = slice_set ports.proxies number port }
with_port ports whose.Nobody port = ports

-- What a port tells of its datagrams: what each receive gave so far, and what it was asked to send; and the socket of each node.
pub record Network (P : Type 0) : Type 0 where
  pub received : P → Option (List (Option Received))
  pub sent : P → Option (List Datagram)
  pub sockets : List Known

-- where the node of this address in the script listens; elsewhere is itself
abbrev pub socket_of : List Known → Peer → Peer
socket_of sockets at = option_map_or (λ known. known.socket) (find (λ known. same_peer known.script at) sockets) at

-- which address in the script the node of this socket has; elsewhere is itself
abbrev pub script_of : List Known → Peer → Peer
script_of sockets at = option_map_or (λ known. known.script) (find (λ known. same_peer known.socket at) sockets) at

-- a datagram, to the socket of the node that it is for
abbrev pub posted : List Known → Datagram → Datagram
posted sockets datagram = record datagram { to = socket_of sockets datagram.to }

-- what came from a socket, as from its node
abbrev pub named : List Known → Received → Received
named sockets came = (script_of sockets came.0, came.1)
