-- A message that grows, and a plaintext that does.
use Rattle.std.specs.Prelude.{ℕ, List, [], ◌∷◌, ◌++◌, Option, Some, None}
use Rattle.osc_coap.specs.declared.kind.Kind.{Kind}
use Rattle.osc_coap.specs.Message.{NumberAndValue, Message}
use Rattle.osc_coap.specs.Plaintext.{Plaintext}

-- the number of the last option, or what is before the first
abbrev pub last_number : ℕ → List NumberAndValue → ℕ
last_number before [] = before
last_number before (option ∷ options) = last_number option.0 options

-- a message with neither options nor payload
abbrev pub bare : Kind → ℕ → ℕ → List ℕ → Message
bare kind code id token = record { kind = kind; code = code; id = id; token = token; options = []; payload = None }

-- the message with one option more, after the others
abbrev pub with_option : Message → ℕ → List ℕ → Message
with_option m number value = record m { options = m.options ++ (number, value) ∷ [] }

-- no bytes are no payload
abbrev pub payload_of : List ℕ → Option (List ℕ)
payload_of [] = None
payload_of (b ∷ bytes) = Some (b ∷ bytes)

abbrev pub with_payload : Message → List ℕ → Message
with_payload m bytes = record m { payload = payload_of bytes }

-- a plaintext with neither options nor payload
abbrev pub bare_plaintext : ℕ → Plaintext
bare_plaintext code = record { code = code; options = []; payload = None }

-- the plaintext with one option more, after the others
abbrev pub with_inner_option : Plaintext → ℕ → List ℕ → Plaintext
with_inner_option p number value = record p { options = p.options ++ (number, value) ∷ [] }

abbrev pub with_inner_payload : Plaintext → List ℕ → Plaintext
with_inner_payload p bytes = record p { payload = payload_of bytes }
