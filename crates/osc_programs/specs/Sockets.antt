-- The addresses of sockets (RFC 3493), by which of its sockets a port sends, and which it reads next.
use Rattle.std.specs.Prelude.{ℕ, ◌≡◌, ◌+◌, Bool, true, false, not, pos, List, drop, position, Option, Some, None, option_map, if◌then◌else◌}
use Rattle.std.specs.Option.{option_or}
use Rattle.std.specs.Ordering.{int_eq}
use Rattle.std.specs.Net.Addr.{ipv4_octets, ipv6_octets}
use Rattle.std.specs.Net.Socket.{v4_ip, v4_port, v6_ip, v6_port, v6_scope_id, socket_flowinfo}
use Rattle.std.specs.declared.net.socket_addr.SocketAddr.{SocketAddr}
use Rattle.std.specs.declared.net.socket_addr.SocketAddr.TheVariants as address
use Rattle.libc.specs.declared.types.pollfd.{pollfd}
use Rattle.osc_model.specs.Peer.{is_v4, same_peer, v4_peer}
use Rattle.osc_model.specs.declared.node.Peer.{Peer}
use Rattle.osc_programs.specs.Heard.{Heard, heard_at}
use Rattle.osc_programs.specs.declared.socket.BoundSocket.{BoundSocket}
use Rattle.osc_programs.specs.declared.socket.Family.{Family}
use Rattle.osc_programs.specs.declared.socket.Family.TheVariants.{V4, V6}

-- ---- addresses

-- the family of a peer's address
abbrev pub family_of : Peer → Family
family_of peer = if is_v4 peer then V4 else V6

-- the peer at a socket's address; one of IPv6 has ::ffff:a.b.c.d for an address of IPv4 (section 3.7)
abbrev pub peer_at : SocketAddr → Peer
peer_at (address.V4 a) = v4_peer (ipv4_octets (v4_ip a)) (v4_port a)
peer_at (address.V6 a) = record { address = ipv6_octets (v6_ip a); scope = v6_scope_id a; port = v6_port a }

abbrev pub family_at : SocketAddr → Family
family_at (address.V4 a) = V4
family_at (address.V6 a) = V6

-- an address for a socket of this family, at which this peer is, and without flow information
abbrev pub IsAddressOf : Family → Peer → SocketAddr → Type 0
IsAddressOf family peer address = (family_at address ≡ family) × (peer_at address ≡ peer) × (socket_flowinfo address ≡ 0)

-- a socket of IPv4 has addresses of IPv4 alone
abbrev pub reaches : Family → Peer → Bool
reaches V4 peer = is_v4 peer
reaches V6 peer = true

-- ---- who is heard

-- whether anything from this peer is heard: where one is named, from that one alone
abbrev pub is_heard : Option Peer → Peer → Bool
is_heard None from = true
is_heard (Some peer) from = same_peer peer from

-- ---- the way to a peer

abbrev pub same_family : Family → Family → Bool
same_family V4 V4 = true
same_family V4 V6 = false
same_family V6 V4 = false
same_family V6 V6 = true

-- the number of the first socket of this family
abbrev pub first_of : List BoundSocket → Family → Option ℕ
first_of sockets family = position (λ socket. same_family socket.family family) sockets

-- by which socket a peer is reached that wasn't heard: the first of its family, else the first of IPv6
abbrev pub way_unheard : List BoundSocket → Peer → Option ℕ
way_unheard sockets to = option_or (first_of sockets (family_of to)) (first_of sockets V6)

-- the socket at which a peer was heard last, where that is noted and known
abbrev pub known_way : Option Heard → Peer → Option ℕ
known_way None to = None
known_way (Some heard) to = heard_at heard to

-- by which socket a datagram goes to a peer: that at which the peer was heard last, where that is known
abbrev pub way_to : List BoundSocket → Option Heard → Peer → Option ℕ
way_to sockets heard to = option_or (known_way heard to) (way_unheard sockets to)

-- ---- the next socket

-- the system told that a read would end at once
abbrev pub is_ready : pollfd → Bool
is_ready asked = not (int_eq asked.revents (pos 0))

-- the number of the first socket that is ready
abbrev pub first_ready : List pollfd → Option ℕ
first_ready asked = position is_ready asked

-- of the first from this number on
abbrev pub ready_from : List pollfd → ℕ → Option ℕ
ready_from asked from = option_map (λ number. from + number) (first_ready (drop from asked))

-- of the first from this number on, else of the first of all
abbrev pub next_ready : List pollfd → ℕ → Option ℕ
next_ready asked from = option_or (ready_from asked from) (first_ready asked)
