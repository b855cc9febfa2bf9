-- How many bytes the spelling of a message has (RFC 7252 section 3), and that of a plaintext (RFC 8613 section 5.3).
use Rattle.std.specs.Prelude.{ℕ, ◌+◌, ◌-◌, List, [], ◌∷◌, length, Option, Some, None, nat_lt, if◌then◌else◌}
pub use Rattle.osc_model.specs.{datagram_limit}
use Rattle.osc_coap.specs.Message.{NumberAndValue, Message}
use Rattle.osc_coap.specs.Plaintext.{Plaintext}

-- the extension of a delta or a length
abbrev pub extension_length : ℕ → ℕ
extension_length n = if nat_lt n 13 then 0 else if nat_lt n 269 then 1 else 2

-- an option after one whose number is before
abbrev pub option_length : ℕ → NumberAndValue → ℕ
option_length before option = 1 + extension_length (option.0 - before) + extension_length (length option.1) + length option.1

abbrev pub options_length : ℕ → List NumberAndValue → ℕ
options_length before [] = 0
options_length before (option ∷ options) = option_length before option + options_length option.0 options

-- the payload marker, and the payload
abbrev pub payload_length : Option (List ℕ) → ℕ
payload_length None = 0
payload_length (Some bytes) = 1 + length bytes

abbrev pub spelled_length : Message → ℕ
spelled_length m = 4 + length m.token + options_length 0 m.options + payload_length m.payload

abbrev pub plaintext_length : Plaintext → ℕ
plaintext_length p = 1 + options_length 0 p.options + payload_length p.payload
