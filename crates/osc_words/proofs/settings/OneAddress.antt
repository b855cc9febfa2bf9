-- An address is what its text parses as: of IPv4 where the text is as it is printed.
use Rattle.std.proofs.Common.{◌≡◌, ℕ, ◌^◌, ◌<◌, ◌≤◌, List, [], ◌∷◌, ◌++◌, codes, decimal, Result, Ok, Err, refl, sym, ap, ◌∙◌, inl, inr, append_assoc, arith, MatchResult}
use Rattle.std.specs.declared.net.socket_addr.SocketAddrV4.{SocketAddrV4}
use Rattle.std.specs.declared.net.socket_addr.SocketAddrV6.{SocketAddrV6}
use Rattle.std.specs.Net.Addr.{ipv4_octets}
use Rattle.std.specs.Net.Grammar.{IsDotted, IsSocketV4Text, IsSocketV6Text, Parses}
use Rattle.std.specs.Net.Socket.{v4_ip, v4_port, v6_port}
use Rattle.std.specs.Net.Text.{ipv4_text, socket_v4_text}
use Rattle.std.proofs.NetLemmas.Texts.{IsPortText-decimal}
use Rattle.std.proofs.NetLemmas.Theorems.{IsSocketV4Text_unique, IsSocketV6Text_unique}
use Rattle.osc_model.specs.{v4_peer}
use Rattle.osc_model.specs.declared.node.Peer.{Peer}
use Rattle.osc_words.specs.Settings.{IsAddressFrom, IsV4AddressFrom, IsV6AddressFrom, v6_peer}
use Rattle.osc_words.specs.Settings.Inner.Reading.{IsRefusal}
use Rattle.osc_words.specs.declared.settings.error.ValueError.{ValueError}
use Rattle.osc_words.specs.declared.settings.error.ValueError.TheVariants.{Bad, Memory}

-- the peer of a socket address
abbrev pub peer_of : SocketAddrV4 → Peer
peer_of a = v4_peer (ipv4_octets (v4_ip a)) (v4_port a)

-- and back
abbrev pub socket_of : List ℕ → ℕ → SocketAddrV4
socket_of octets port = record { ip = record { octets = octets }; port = port }

dotted_again : (text octets : List ℕ) → IsDotted text octets → text ≡ ipv4_text octets
dotted_again text octets h = h.spelled ∙ ap ipv4_text (sym h.value)

pub address_read : (least : ℕ) (text : List ℕ) (a : SocketAddrV4) → IsSocketV4Text text a → text ≡ socket_v4_text a → least ≤ v4_port a → IsV4AddressFrom least text (peer_of a)
address_read least text a h printed some =
    let d = h.3 in
    let small : v4_port a < 2 ^ 16 = h.4.3 in
    let again : IsDotted (ipv4_text (ipv4_octets (v4_ip a))) (ipv4_octets (v4_ip a)) = record { a = d.a; b = d.b; c = d.c; d = d.d; fit = d.fit; value = d.value; spelled = ap ipv4_text d.value } in
    record { dotted = ipv4_text (ipv4_octets (v4_ip a)); octets = ipv4_octets (v4_ip a); is = refl; address = again; at_least = some; at_most = omega arith; spelled = printed }

parses : {least : ℕ} (text : List ℕ) (peer : Peer) (h : IsV4AddressFrom least text peer) → IsSocketV4Text text (socket_of h.octets peer.port)
parses text peer h = (
  h.dotted,
  58 ∷ decimal peer.port,
  h.spelled ∙ append_assoc h.dotted (58 ∷ []) (decimal peer.port),
  h.address,
  IsPortText-decimal peer.port (omega (arith, h.at_most)),
)

printed_again : {least : ℕ} (text : List ℕ) (peer : Peer) (h : IsV4AddressFrom least text peer) → text ≡ socket_v4_text (socket_of h.octets peer.port)
printed_again text peer h = h.spelled ∙ ap (λ dotted. dotted ++ codes ":" ++ decimal peer.port) (dotted_again h.dotted h.octets h.address)

-- a text that is no socket address is no address
pub unparsed : (least : ℕ) (text : List ℕ) → ((a : SocketAddrV4) → ¬ IsSocketV4Text text a) → (peer : Peer) → ¬ IsV4AddressFrom least text peer
unparsed least text none peer h = none (socket_of h.octets peer.port) (parses text peer h)

-- nor is one that is a socket address written otherwise
pub not_printed : (least : ℕ) (text : List ℕ) (a : SocketAddrV4) → IsSocketV4Text text a → ¬ (text ≡ socket_v4_text a) → (peer : Peer) → ¬ IsV4AddressFrom least text peer
not_printed least text a h other peer k =
    other (printed_again text peer k ∙ ap socket_v4_text (IsSocketV4Text_unique text (socket_of k.octets peer.port) a (parses text peer k) h))

-- or one of a smaller port
pub no_port : (least : ℕ) (text : List ℕ) (a : SocketAddrV4) → IsSocketV4Text text a → v4_port a < least → (peer : Peer) → ¬ IsV4AddressFrom least text peer
no_port least text a h small peer k =
    let same : peer.port ≡ v4_port a = ap v4_port (IsSocketV4Text_unique text (socket_of k.octets peer.port) a (parses text peer k) h) in
    let some = k.at_least in
    absurd (omega arith)

-- ---- of IPv6

pub v6_read : (least : ℕ) (text : List ℕ) (a : SocketAddrV6) → IsSocketV6Text text a → least ≤ v6_port a → IsV6AddressFrom least text (v6_peer a)
v6_read least text a h some = record { address = a; spelled = h; is = refl; at_least = some }

-- the error of a parser says that the text spells none
pub spells_no_v6 : {E : Type 0} (text : List ℕ) (r : Result SocketAddrV6 E) (error : E) → r ≡ Err error → Parses IsSocketV6Text text r → (a : SocketAddrV6) → ¬ IsSocketV6Text text a
spells_no_v6 text (Ok a) error is h = absurd cc
spells_no_v6 text (Err other) error is h = h

pub v6_unparsed : (least : ℕ) (text : List ℕ) → ((a : SocketAddrV6) → ¬ IsSocketV6Text text a) → (peer : Peer) → ¬ IsV6AddressFrom least text peer
v6_unparsed least text none peer h = none h.address h.spelled

pub no_v6_port : (least : ℕ) (text : List ℕ) (a : SocketAddrV6) → IsSocketV6Text text a → v6_port a < least → (peer : Peer) → ¬ IsV6AddressFrom least text peer
no_v6_port least text a h small peer k =
    let same : v6_port k.address ≡ v6_port a = ap v6_port (IsSocketV6Text_unique text k.address a k.spelled h) in
    let own : peer.port ≡ v6_port k.address = ap (λ (peer : Peer). peer.port) k.is in
    let some = k.at_least in
    absurd (omega arith)

-- ---- of either

-- what is none of IPv4, as IPv6
pub v6_instead : (least : ℕ) (text : List ℕ) (r : Result Peer ValueError) → ((peer : Peer) → ¬ IsV4AddressFrom least text peer)
    → MatchResult r (IsV6AddressFrom least text) (IsRefusal (IsV6AddressFrom least text)) → MatchResult r (IsAddressFrom least text) (IsRefusal (IsAddressFrom least text))
v6_instead least text (Ok peer) none h = inr h
v6_instead least text (Err Bad) none h = λ peer is. elim is [ inl four ↦ none peer four | inr six ↦ h peer six ]
v6_instead least text (Err Memory) none h = tt
