-- The numbers of the refusals, one table for all crates: programs print them, and calls answer them.
use Rattle.std.specs.Prelude.{ℕ}

-- ---- ciphers

-- a text, or its associated data, is longer than the cipher takes
abbrev pub too_long : ℕ
too_long = 1

-- what is written doesn't fit into the buffer
abbrev pub out_too_small : ℕ
out_too_small = 2

-- what is sealed is the sealing of no text
abbrev pub not_genuine : ℕ
not_genuine = 3

-- more output is asked of HKDF than it gives
abbrev pub output_too_long : ℕ
output_too_long = 4

-- ---- codecs

-- an item of CBOR ends too early
abbrev pub truncated : ℕ
truncated = 5

-- an item of CBOR is of a kind that isn't read
abbrev pub unsupported : ℕ
unsupported = 6

-- a map has a key twice
abbrev pub duplicate_key : ℕ
duplicate_key = 7

-- items of CBOR lie too deep in one another
abbrev pub too_deep : ℕ
too_deep = 8

-- there is no memory
abbrev pub memory : ℕ
memory = 9

-- an item isn't of the form of a COSE object
abbrev pub shape : ℕ
shape = 10

-- the algorithm is another
abbrev pub algorithm : ℕ
algorithm = 11

-- a message's version isn't 1
abbrev pub version : ℕ
version = 12

-- bytes are no message
abbrev pub format : ℕ
format = 13

-- ---- messages

-- a message would be longer than a datagram may be
abbrev pub datagram_too_long : ℕ
datagram_too_long = 14

-- a critical option isn't recognised
abbrev pub bad_option : ℕ
bad_option = 15

-- too many confirmable messages are open
abbrev pub queue_full : ℕ
queue_full = 16

-- something is awaited already
abbrev pub busy : ℕ
busy = 17

-- ---- contexts and requests

-- all sender sequence numbers are taken
abbrev pub exhausted : ℕ
exhausted = 18

-- an ID has more than 7 bytes
abbrev pub id_too_long : ℕ
id_too_long = 19

-- both ends have the same ID
abbrev pub equal_ids : ℕ
equal_ids = 20

-- an OSCORE option or a protected payload is malformed
abbrev pub malformed : ℕ
malformed = 21

-- no live context is the one that is named
abbrev pub no_context : ℕ
no_context = 22

-- a number isn't fresh
abbrev pub replay : ℕ
replay = 23

-- ---- tokens and exchanges

-- what should be a scope isn't one
abbrev pub bad_scope : ℕ
bad_scope = 24

-- a token opens under no key of the server
abbrev pub token_not_genuine : ℕ
token_not_genuine = 25

-- a token has ended
abbrev pub expired : ℕ
expired = 26

-- a token doesn't hold yet
abbrev pub not_yet : ℕ
not_yet = 27

-- a token is for another server
abbrev pub audience : ℕ
audience = 28

-- a token's claims can't be read
abbrev pub bad_claims : ℕ
bad_claims = 29

-- a field of an exchange is missing, or of another type or length
abbrev pub fields : ℕ
fields = 30

-- too many tokens have a context
abbrev pub full : ℕ
full = 31

-- ---- ports and calls

-- a receive or a send failed
abbrev pub port_fault : ℕ
port_fault = 32

-- a handle holds nothing
abbrev pub nothing_held : ℕ
nothing_held = 33

-- an argument is out of its range
abbrev pub bad_argument : ℕ
bad_argument = 34

-- what was asked is lost
abbrev pub lost : ℕ
lost = 35

-- an answer wasn't protected
abbrev pub unverified : ℕ
unverified = 36

-- the call isn't one for now
abbrev pub not_now : ℕ
not_now = 37

-- a token is revoked
abbrev pub revoked : ℕ
revoked = 38
