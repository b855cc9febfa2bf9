-- The master salt of an exchange, and how both nonces are read back from it (RFC 9203 section 4.3).
use Rattle.std.specs.Prelude.{ℕ, ◌-◌, nat_lt, if◌then◌else◌, List, [], ◌∷◌, ◌++◌, length, take, drop}
use Rattle.osc_cbor.specs.{byte_string, spelling}

-- salt, nonce1 and nonce2, each as a CBOR byte string, one after the other
unfoldable pub master_salt : List ℕ → List ℕ → List ℕ → List ℕ
master_salt salt nonce1 nonce2 = spelling (byte_string salt) ++ spelling (byte_string nonce1) ++ spelling (byte_string nonce2)

-- how long the head of a byte string of less than 256 bytes is, and what it says, by its first bytes
abbrev pub string_at : List ℕ → List ℕ × List ℕ
string_at [] = ([], [])
string_at (first ∷ []) = ([], [])
string_at (first ∷ second ∷ rest) =
    if nat_lt first 88 then (take (first - 64) (second ∷ rest), drop (first - 64) (second ∷ rest))
    else (take second rest, drop second rest)

-- the client's nonce is the second byte string
unfoldable pub client_nonce : List ℕ → List ℕ
client_nonce joined = (string_at (string_at joined).1).0

-- the server's nonce has 8 bytes, the last ones
unfoldable pub server_nonce : List ℕ → List ℕ
server_nonce joined = drop (length joined - 8) joined
