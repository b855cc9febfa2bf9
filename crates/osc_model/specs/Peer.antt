-- Peers: addresses, their zones and ports (RFC 4291, RFC 4007).
use Rattle.std.specs.Prelude.{ℕ, Bool, ◌&&◌, nat_eq, bytes_eq, List, [], ◌∷◌, ◌++◌, take, drop, Option, Some, None, codes, decimal, if◌then◌else◌}
use Rattle.std.specs.Hash.{HashWrites, u16, u32, u64}
use Rattle.std.specs.Int.{w64, from_le_bytes}
use Rattle.std.specs.Net.Addr.{segments_of}
use Rattle.std.specs.Net.Text.{ipv4_text, ipv6_text, scope_text}
use Rattle.osc_model.specs.declared.node.Peer.{Peer}

-- one peer: of one address, one zone and one port
abbrev pub same_peer : Peer → Peer → Bool
same_peer a b = bytes_eq a.address b.address && (nat_eq a.scope b.scope && nat_eq a.port b.port)

-- the halves of an address, as numbers
abbrev pub first_half : List ℕ → ℕ
first_half address = from_le_bytes w64 (take 8 address)

abbrev pub second_half : List ℕ → ℕ
second_half address = from_le_bytes w64 (drop 8 address)

-- what a hasher is fed of a peer
abbrev pub address_fed : List ℕ → HashWrites
address_fed address = u64 (first_half address) ++ u64 (second_half address)

abbrev pub peer_fed : Peer → HashWrites
peer_fed peer = address_fed peer.address ++ (u32 peer.scope ++ u16 peer.port)

-- ---- addresses of IPv4 (RFC 4291 section 2.5.5.2)

-- ::ffff:0:0/96
abbrev pub v4_prefix : List ℕ
v4_prefix = 0 ∷ 0 ∷ 0 ∷ 0 ∷ 0 ∷ 0 ∷ 0 ∷ 0 ∷ 0 ∷ 0 ∷ 0xff ∷ 0xff ∷ []

-- the peer at these four bytes, ::ffff:a.b.c.d
abbrev pub v4_peer : List ℕ → ℕ → Peer
v4_peer octets port = record { address = v4_prefix ++ octets; scope = 0; port = port }

abbrev pub is_v4 : Peer → Bool
is_v4 peer = bytes_eq (take 12 peer.address) v4_prefix && nat_eq peer.scope 0

-- the four bytes, where it is one
abbrev pub octets_of : Peer → Option (List ℕ)
octets_of peer = if is_v4 peer then Some (take 4 (drop 12 peer.address)) else None

-- ---- as they are written

-- A.B.C.D:PORT, or [ADDRESS]:PORT, or [ADDRESS%ZONE]:PORT
abbrev pub address_text : Option (List ℕ) → Peer → List ℕ
address_text (Some octets) peer = ipv4_text octets
address_text None peer = codes "[" ++ ipv6_text (segments_of peer.address) ++ scope_text peer.scope ++ codes "]"

abbrev pub peer_text : Peer → List ℕ
peer_text peer = address_text (octets_of peer) peer ++ codes ":" ++ decimal peer.port
