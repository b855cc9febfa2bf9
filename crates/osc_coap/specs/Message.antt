-- CoAP messages and the one spelling of each (RFC 7252 section 3).
use Rattle.std.specs.Prelude.{◌≡◌, ℕ, ◌+◌, ◌-◌, ◌*◌, ◌^◌, ◌<◌, ◌≤◌, List, [], ◌∷◌, ◌++◌, length, Option, Some, None, IfSome, nat_lt, if◌then◌else◌}
use Rattle.std.specs.Int.{w16, to_be_bytes}
use Rattle.osc_coap.specs.declared.kind.Kind.{Kind}
use Rattle.osc_coap.specs.Kind.{kind_bits}

-- an option: its number and its value
abbrev pub NumberAndValue : Type 0
NumberAndValue = ℕ × List ℕ

-- a message, apart from where its bytes lie
pub record Message : Type 0 where
  pub kind : Kind
  pub code : ℕ
  pub id : ℕ
  pub token : List ℕ
  pub options : List NumberAndValue
  pub payload : Option (List ℕ)

-- ---- how a message is spelled (section 3, figure 7)

-- version 1, the type and the length of the token in one byte; the code; the message ID in two bytes
abbrev pub header : Kind → ℕ → ℕ → ℕ → List ℕ
header kind code id token_length = (64 + 16 * kind_bits kind + token_length) ∷ code ∷ to_be_bytes w16 id

-- The four bits that stand for an option's delta or length (section 3.1) ..
unfoldable pub nibble : ℕ → ℕ
nibble n = if nat_lt n 13 then n else if nat_lt n 269 then 13 else 14

-- .. and the bytes of its extension.
unfoldable pub extension : ℕ → List ℕ
extension n = if nat_lt n 13 then [] else if nat_lt n 269 then (n - 13) ∷ [] else to_be_bytes w16 (n - 269)

-- an option after one whose number is before (section 3.1, figure 8)
unfoldable pub option_spelling : ℕ → NumberAndValue → List ℕ
option_spelling before option =
    let delta = option.0 - before in
    let size = length option.1 in
    (16 * nibble delta + nibble size) ∷ extension delta ++ extension size ++ option.1

unfoldable pub options_spelling : ℕ → List NumberAndValue → List ℕ
options_spelling before [] = []
options_spelling before (option ∷ options) = option_spelling before option ++ options_spelling option.0 options

-- the payload marker, and the payload
unfoldable pub payload_spelling : Option (List ℕ) → List ℕ
payload_spelling None = []
payload_spelling (Some bytes) = 255 ∷ bytes

unfoldable pub spelling : Message → List ℕ
spelling m = header m.kind m.code m.id (length m.token) ++ m.token ++ options_spelling 0 m.options ++ payload_spelling m.payload

-- ---- which messages have a spelling

-- an option that can follow one whose number is before: deltas are not negative, numbers have
-- 16 bits, and the length has to fit its extension (section 3.1)
pub record IsOptionBehind (before : ℕ) (option : NumberAndValue) : Type 0 where
  pub rises : before ≤ option.0
  pub number : option.0 < 2 ^ 16
  pub size : length option.1 < 2 ^ 16 + 269

abbrev pub AreOptions : ℕ → List NumberAndValue → Type 0
AreOptions before [] = Unit {0}
AreOptions before (option ∷ options) = IsOptionBehind before option × AreOptions option.0 options

-- the message is no more than its header
pub record IsBare (m : Message) : Type 0 where
  pub token : m.token ≡ []
  pub options : m.options ≡ []
  pub payload : m.payload ≡ None

-- a token has at most 8 bytes, and a payload at least one (section 3); code 0.00 is that of a message
-- that is no more than its header (section 4.1)
pub record HasSpelling (m : Message) : Type 0 where
  pub id : m.id < 2 ^ 16
  pub token : length m.token ≤ 8
  pub options : AreOptions 0 m.options
  pub payload : IfSome m.payload (λ bytes. 0 < length bytes)
  pub empty : m.code ≡ 0 → IsBare m

-- these bytes are this message
pub record Spells (bytes : List ℕ) (m : Message) : Type 0 where
  pub lawful : HasSpelling m
  pub whole : bytes ≡ spelling m
