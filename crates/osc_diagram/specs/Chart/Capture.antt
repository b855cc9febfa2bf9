-- A capture of the network: the classic file of libpcap (draft-ietf-opsawg-pcap), with packets of IPv4 (RFC 791) and IPv6 (RFC 8200) of UDP
-- datagrams (RFC 768).
use Rattle.std.specs.Prelude.{ℕ, ◌+◌, ◌-◌, ◌*◌, ◌/◌, ◌%◌, Bool, true, false, not, ◌&&◌, if◌then◌else◌, List, [], ◌∷◌, ◌++◌, drop, flat_map, length, take}
use Rattle.osc_model.specs.Peer.{is_v4}
use Rattle.osc_model.specs.declared.node.Peer.{Peer}
use Rattle.osc_diagram.specs.declared.chart.chart.Arrow.{Arrow}
use Rattle.osc_diagram.specs.declared.chart.chart.Mark.{Mark}
use Rattle.osc_diagram.specs.declared.chart.chart.Mark.TheVariants as mark

-- a number as 2 bytes, and as 4, the most significant first
abbrev pub two : ℕ → List ℕ
two n = n / 256 % 256 ∷ n % 256 ∷ []

abbrev pub four : ℕ → List ℕ
four n = two (n / 65536) ++ two n

-- what a byte counts in a number of 16 bits: 256 times itself, or itself
abbrev pub weight : Bool → ℕ → ℕ
weight true byte = 256 * byte
weight false byte = byte

-- the sum of the numbers of 16 bits that these bytes are, of which the first is a higher byte or a lower one
abbrev pub sum_of_pairs : Bool → List ℕ → ℕ
sum_of_pairs high [] = 0
sum_of_pairs high (byte ∷ bytes) = weight high byte + sum_of_pairs (not high) bytes

-- The complement of their sum in ones' complement (RFC 1071), where 0 may be all ones: they are not all zero.
abbrev pub complement : List ℕ → ℕ
complement bytes = 65535 - sum_of_pairs true bytes % 65535

-- ---- one datagram

-- both its ends are of IPv4; any other is a datagram of IPv6, in which an end of IPv4 is its mapped address (RFC 4291 section 2.5.5.2)
abbrev pub is_of_v4 : Arrow → Bool
is_of_v4 arrow = is_v4 arrow.from && is_v4 arrow.to

-- the most that a UDP datagram over IPv4 carries, and over IPv6; a datagram of CoAP has far less
abbrev pub most_carried : Arrow → ℕ
most_carried arrow = if is_of_v4 arrow then 65507 else 65527

unfoldable pub carried : Arrow → List ℕ
carried arrow = take (most_carried arrow) arrow.bytes

abbrev pub udp_length : Arrow → ℕ
udp_length arrow = 8 + length (carried arrow)

-- the header of UDP with this checksum
unfoldable pub udp_header : Arrow → ℕ → List ℕ
udp_header arrow checksum = two arrow.from.port ++ two arrow.to.port ++ two (udp_length arrow) ++ two checksum

-- ---- over IPv4

-- the four bytes of an address of IPv4
unfoldable pub v4_of : Peer → List ℕ
v4_of peer = drop 12 peer.address

-- the header of IPv4 with this checksum: no option, no fragment, 64 hops, UDP
unfoldable pub v4_header : Arrow → ℕ → List ℕ
v4_header arrow checksum =
    69 ∷ 0 ∷ [] ++ two (20 + udp_length arrow) ++ 0 ∷ 0 ∷ 0 ∷ 0 ∷ 64 ∷ 17 ∷ [] ++ two checksum ++ v4_of arrow.from ++ v4_of arrow.to

unfoldable pub v4_checksum : Arrow → ℕ
v4_checksum arrow = complement (v4_header arrow 0) % 65535

-- addresses, protocol and length
unfoldable pub v4_pseudo_header : Arrow → List ℕ
v4_pseudo_header arrow = v4_of arrow.from ++ v4_of arrow.to ++ 0 ∷ 17 ∷ [] ++ two (udp_length arrow)

-- ---- over IPv6

-- the header of IPv6 (RFC 8200 section 3): version 6, traffic class and flow label 0, the payload's length, UDP, 64 hops, the addresses
unfoldable pub v6_header : Arrow → List ℕ
v6_header arrow = 96 ∷ 0 ∷ 0 ∷ 0 ∷ [] ++ two (udp_length arrow) ++ 17 ∷ 64 ∷ [] ++ arrow.from.address ++ arrow.to.address

-- addresses, length and protocol (RFC 8200 section 8.1)
unfoldable pub v6_pseudo_header : Arrow → List ℕ
v6_pseudo_header arrow = arrow.from.address ++ arrow.to.address ++ four (udp_length arrow) ++ 0 ∷ 0 ∷ 0 ∷ 17 ∷ []

-- ---- its packet and its record

abbrev pub ip_header : Arrow → List ℕ
ip_header arrow = if is_of_v4 arrow then v4_header arrow (v4_checksum arrow) else v6_header arrow

abbrev pub pseudo_header : Arrow → List ℕ
pseudo_header arrow = if is_of_v4 arrow then v4_pseudo_header arrow else v6_pseudo_header arrow

-- what the checksum of UDP is over: the pseudo-header, and then the datagram with a checksum of 0
unfoldable pub udp_checksum : Arrow → ℕ
udp_checksum arrow = complement (pseudo_header arrow ++ udp_header arrow 0 ++ carried arrow)

unfoldable pub packet : Arrow → List ℕ
packet arrow = ip_header arrow ++ udp_header arrow (udp_checksum arrow) ++ carried arrow

-- its moment: seconds, which count modulo 2^32, and microseconds
unfoldable pub stamp : Arrow → List ℕ
stamp arrow = four (arrow.moment.ms / 1000) ++ four (arrow.moment.ms % 1000 * 1000)

-- its record: its moment, how many bytes of the packet follow and how many there were, and the packet, of which 65535 bytes are kept at most
unfoldable pub record_of : Arrow → List ℕ → List ℕ
record_of arrow packet = stamp arrow ++ four (length (take 65535 packet)) ++ four (length packet) ++ take 65535 packet

-- ---- the file

-- the magic number of microseconds, version 2.4, two zeros, packets of up to 65535 bytes, and the link type of bare IP packets (101)
abbrev pub file_header : List ℕ
file_header = four 2712847316 ++ two 2 ++ two 4 ++ four 0 ++ four 0 ++ four 65535 ++ four 101

-- the record of an arrow, and nothing for what isn't one
abbrev pub of_mark : Mark → List ℕ
of_mark (mark.Arrow arrow) = record_of arrow (packet arrow)
of_mark other = []

-- the header, and a record for each arrow, in order
abbrev pub capture : List Mark → List ℕ
capture marks = file_header ++ flat_map of_mark marks
