-- What OSCORE encrypts of a message, and the one spelling of it (RFC 8613 section 5.3).
use Rattle.std.specs.Prelude.{◌≡◌, ℕ, ◌<◌, List, ◌∷◌, ◌++◌, length, Option, IfSome}
use Rattle.osc_coap.specs.Message.{NumberAndValue, AreOptions, options_spelling, payload_spelling}

-- the code, the options of class E and the payload of a message
pub record Plaintext : Type 0 where
  pub code : ℕ
  pub options : List NumberAndValue
  pub payload : Option (List ℕ)

-- the code in one byte, and after it options and payload as in a message
unfoldable pub plaintext_spelling : Plaintext → List ℕ
plaintext_spelling p = p.code ∷ options_spelling 0 p.options ++ payload_spelling p.payload

-- any code has a spelling, also 0.00; a payload has at least one byte
pub record HasPlaintextSpelling (p : Plaintext) : Type 0 where
  pub options : AreOptions 0 p.options
  pub payload : IfSome p.payload (λ bytes. 0 < length bytes)

-- these bytes are this plaintext
pub record SpellsPlaintext (bytes : List ℕ) (p : Plaintext) : Type 0 where
  pub lawful : HasPlaintextSpelling p
  pub whole : bytes ≡ plaintext_spelling p
