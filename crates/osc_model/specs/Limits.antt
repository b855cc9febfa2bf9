-- The numbers that several crates go by.
use Rattle.std.specs.Prelude.{ℕ}

-- the most bytes of a datagram's payload (RFC 7252 section 4.6)
abbrev pub datagram_limit : ℕ
datagram_limit = 1152

-- EXCHANGE_LIFETIME and NON_LIFETIME, in ms (RFC 7252 section 4.8.2)
abbrev pub exchange_lifetime : ℕ
exchange_lifetime = 247000

abbrev pub non_lifetime : ℕ
non_lifetime = 145000

-- the UDP port of coap (RFC 7252 section 6.1)
abbrev pub default_port : ℕ
default_port = 5683

-- application/ace+cbor (RFC 9200 section 8.16)
abbrev pub ace_cbor : ℕ
ace_cbor = 19

-- how many posts of each token id a server knows again, unless it is told otherwise
abbrev pub remembered_posts : ℕ
remembered_posts = 8
