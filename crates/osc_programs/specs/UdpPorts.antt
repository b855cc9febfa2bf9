-- The port of several sockets: what it noted of its peers, and the socket by which a datagram goes.
use Rattle.std.specs.Prelude.{ℕ, List, slice_get, Option, Some, None, option_map}
use Rattle.std.specs.Option.{option_and_then}
use Rattle.osc_model.specs.declared.node.Peer.{Peer}
use Rattle.osc_programs.specs.Heard.{Heard}
use Rattle.osc_programs.specs.Sockets.{way_to}
use Rattle.osc_programs.specs.declared.socket.BoundSocket.{BoundSocket}
use Rattle.osc_programs.specs.declared.udp.Several.{Several}

-- where each peer was heard, where that is noted
abbrev pub heard_by : Option Several → Option Heard
heard_by several = option_map (λ its. its.ways) several

-- the socket by which a datagram goes to a peer, if one does
abbrev pub socket_to : List BoundSocket → Option Heard → Peer → Option BoundSocket
socket_to sockets heard to = option_and_then (slice_get sockets) (way_to sockets heard to)
