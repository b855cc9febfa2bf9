-- What the texts and the numbers of a document spell.
use Rattle.std.specs.Prelude.{◌≡◌, ◌⊎◌, ℕ, ◌≤◌, ℤ, pos, List, ◌++◌, length, codes, decimal, Ok, Some}
use Rattle.std.specs.Net.Addr.{ipv6_octets}
use Rattle.std.specs.Net.Grammar.{IsDotted, IsSocketV6Text}
use Rattle.std.specs.Net.Socket.{v6_ip, v6_port, v6_scope_id}
use Rattle.std.specs.declared.net.socket_addr.SocketAddrV6.{SocketAddrV6}
use Rattle.hex.specs.Hex.{decode_of}
use Rattle.osc_model.specs.{algorithm_number, revoked_path, segments_of, v4_peer, IsPath}
use Rattle.osc_model.specs.declared.algorithm.Algorithm.{Algorithm}
use Rattle.osc_model.specs.declared.node.Peer.{Peer}

-- the numbers of UDP ports that can be sent to
abbrev pub IsPortNumber : ℕ → Type 0
IsPortNumber port = (1 ≤ port) × (port ≤ 65535)

-- `A.B.C.D:PORT`: decimal numbers without leading zeros, A to D at most 255, PORT from `least` to 65535
pub record IsV4AddressFrom (least : ℕ) (text : List ℕ) (peer : Peer) : Type 0 where
  pub dotted : List ℕ
  pub octets : List ℕ
  pub is : peer ≡ v4_peer octets peer.port
  pub address : IsDotted dotted octets
  pub at_least : least ≤ peer.port
  pub at_most : peer.port ≤ 65535
  pub spelled : text ≡ dotted ++ codes ":" ++ decimal peer.port

-- the peer at this address
abbrev pub v6_peer : SocketAddrV6 → Peer
v6_peer address = record { address = ipv6_octets (v6_ip address); scope = v6_scope_id address; port = v6_port address }

-- `[ADDRESS]:PORT` or `[ADDRESS%ZONE]:PORT`: an address as RFC 4291 section 2.2 writes it, ZONE a decimal number (RFC 4007 section 11),
-- PORT from `least` to 65535
pub record IsV6AddressFrom (least : ℕ) (text : List ℕ) (peer : Peer) : Type 0 where
  pub address : SocketAddrV6
  pub spelled : IsSocketV6Text text address
  pub is : peer ≡ v6_peer address
  pub at_least : least ≤ peer.port

-- an address of IPv4 or IPv6, with such a port
abbrev pub IsAddressFrom : ℕ → List ℕ → Peer → Type 0
IsAddressFrom least text peer = IsV4AddressFrom least text peer ⊎ IsV6AddressFrom least text peer

-- an address that can be sent to
abbrev pub IsAddress : List ℕ → Peer → Type 0
IsAddress = IsAddressFrom 1

-- an address for which the system may pick the port: it does where the port is 0
abbrev pub IsOpenAddress : List ℕ → Peer → Type 0
IsOpenAddress = IsAddressFrom 0

-- pairs of hexadecimal digits in either case
abbrev pub SpellsHex : List ℕ → List ℕ → Type 0
SpellsHex text bytes = decode_of text ≡ Ok bytes

-- the same, for a number of bytes in these bounds
pub record SpellsBytes (least most : ℕ) (text bytes : List ℕ) : Type 0 where
  pub digits : SpellsHex text bytes
  pub at_least : least ≤ length bytes
  pub at_most : length bytes ≤ most

-- the bytes of a text that an option Uri-Host can hold: 1 to 255 (RFC 7252 section 5.10, table 4)
abbrev pub IsHost : List ℕ → List ℕ → Type 0
IsHost text host = (host ≡ text) × (1 ≤ length host) × (length host ≤ 255)

-- the name of a file: a text that isn't empty
abbrev pub IsFileName : List ℕ → List ℕ → Type 0
IsFileName text name = (name ≡ text) × (1 ≤ length name)

-- a path of at most 4 segments, below which resources revoke tokens: those of a token's id, of at most 64 bytes, are four more, and a path
-- has at most eight
abbrev pub IsRevocationPath : List ℕ → List ℕ → Type 0
IsRevocationPath text path = (path ≡ text) × IsPath path × (length (segments_of path) ≤ 4)

-- an id of at most 64 bytes, whose digits make a path below this one
abbrev pub IsIdBelow : List ℕ → List ℕ → List ℕ → Type 0
IsIdBelow root text id = SpellsBytes 0 64 text id × ((path : List ℕ) × (revoked_path root id ≡ Some path))

-- an integer that is the number of a port
abbrev pub IsPort : ℤ → ℕ → Type 0
IsPort number port = (number ≡ pos port) × IsPortNumber port

-- an integer that is a number of seconds: 1 to 4294967295
abbrev pub IsSeconds : ℤ → ℕ → Type 0
IsSeconds number seconds = (number ≡ pos seconds) × (1 ≤ seconds) × (seconds ≤ 4294967295)

-- an integer that is the number of an algorithm (RFC 9053 section 4.2)
abbrev pub IsAlgorithm : ℤ → Algorithm → Type 0
IsAlgorithm number algorithm = number ≡ pos (algorithm_number algorithm)
