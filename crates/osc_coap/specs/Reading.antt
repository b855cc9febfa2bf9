-- Reading from left to right: the way from the code to the spelling. What it finds is what `Spells` and `SpellsPlaintext`
-- say (the law `reading`).
use Rattle.std.specs.Prelude.{ℕ, zero, suc, ◌+◌, ◌*◌, ◌/◌, ◌%◌, List, [], ◌∷◌, length, take, drop, slice_index_or, ◌<◌, Option, Some, None, nat_lt, ◌==◌, if◌then◌else◌, unwrap_or, IsTrue, is_some, Bool, true, ◌&&◌, Result, Ok, Err}
use Rattle.std.specs.Option.{option_map}
use Rattle.osc_coap.specs.declared.kind.Kind.{Kind}
use Rattle.osc_coap.specs.declared.kind.Kind.TheVariants.{Confirmable, NonConfirmable, Acknowledgement, Reset}
use Rattle.osc_coap.specs.declared.error.ParseError.{ParseError}
use Rattle.osc_coap.specs.declared.error.ParseError.TheVariants.{Version, Format}
use Rattle.osc_coap.specs.Message.{NumberAndValue, Message}
use Rattle.osc_coap.specs.Plaintext.{Plaintext}

-- each element is a byte
abbrev pub AreBytes : List ℕ → Type 0
AreBytes bytes = (i : ℕ) → slice_index_or bytes i 0 < 256

infixl 10 ◌>>=◌
abbrev pub ◌>>=◌ : {A B : Type 0} → Option A → (A → Option B) → Option B
None >>= f = None
(Some x) >>= f = f x

-- a number of one or two bytes, and the bytes after it
abbrev pub byte_at : List ℕ → Option (ℕ × List ℕ)
byte_at [] = None
byte_at (b ∷ rest) = Some (b, rest)

abbrev pub two_bytes_at : List ℕ → Option (ℕ × List ℕ)
two_bytes_at [] = None
two_bytes_at (a ∷ []) = None
two_bytes_at (a ∷ b ∷ rest) = Some (256 * a + b, rest)

-- what a number is where its bytes stand for what is above a limit
abbrev pub above : ℕ → ℕ × List ℕ → ℕ × List ℕ
above limit n = (limit + n.0, n.1)

-- what four bits stand for, and the bytes after the extension
unfoldable pub extended_at : ℕ → List ℕ → Option (ℕ × List ℕ)
extended_at bits bytes =
    if nat_lt bits 13 then Some (bits, bytes)
    else if bits == 13 then option_map (above 13) (byte_at bytes)
    else if bits == 14 then option_map (above 269) (two_bytes_at bytes)
    else None

unfoldable pub option_at : ℕ → List ℕ → Option (NumberAndValue × List ℕ)
option_at before bytes = do
  head ← byte_at bytes
  delta ← extended_at (head.0 / 16) head.1
  size ← extended_at (head.0 % 16) delta.1
  if nat_lt 65535 (before + delta.0) then None else if nat_lt (length size.1) size.0 then None else Some ((before + delta.0, take size.0 size.1), drop size.0 size.1)

-- the options and the payload, if all of the bytes are that; enough fuel is the number of bytes
abbrev pub Body : Type 0
Body = List NumberAndValue × Option (List ℕ)

-- what follows the marker
abbrev pub payload_at : List ℕ → Option Body
payload_at [] = None
payload_at (b ∷ bytes) = Some ([], Some (b ∷ bytes))

unfoldable pub body_within : ℕ → ℕ → List ℕ → Option Body
body_within fuel before [] = Some ([], None)
body_within zero before (b ∷ bytes) = None
body_within (suc fuel) before (b ∷ bytes) =
    if b == 255 then payload_at bytes
    else option_at before (b ∷ bytes) >>= λ first. body_within fuel first.0.0 first.1 >>= λ others. Some (first.0 ∷ others.0, others.1)

unfoldable pub body_at : ℕ → List ℕ → Option Body
body_at before bytes = body_within (length bytes) before bytes

-- no option is here
abbrev pub is_end : List ℕ → Bool
is_end [] = true
is_end (b ∷ bytes) = b == 255

abbrev pub options_in : ℕ → List ℕ → List NumberAndValue
options_in before bytes = unwrap_or (option_map (λ body. body.0) (body_at before bytes)) []

-- the payload after the options, if the bytes can be read
abbrev pub payload_in : ℕ → List ℕ → Option (Option (List ℕ))
payload_in before bytes = option_map (λ body. body.1) (body_at before bytes)

abbrev pub CanBeRead : ℕ → List ℕ → Type 0
CanBeRead before bytes = IsTrue (is_some (body_at before bytes))

-- ---- the whole message

abbrev pub kind_of : ℕ → Kind
kind_of zero = Confirmable
kind_of (suc zero) = NonConfirmable
kind_of (suc (suc zero)) = Acknowledgement
kind_of (suc (suc (suc bits))) = Reset

abbrev pub with_body : ℕ → ℕ → ℕ → List ℕ → Option Body → Result Message ParseError
with_body first code id token None = Err Format
with_body first code id token (Some body) = Ok (record { kind = kind_of (first / 16 % 4); code = code; id = id; token = token; options = body.0; payload = body.1 })

-- what follows the four bytes of a header
unfoldable pub fields_at : ℕ → ℕ → ℕ → List ℕ → Result Message ParseError
fields_at first code id rest =
    let size = first % 16 in
    if nat_lt 8 size then Err Format
    else if nat_lt (length rest) size then Err Format
    else if code == 0 && nat_lt 0 (length rest) then Err Format
    else with_body first code id (take size rest) (body_at 0 (drop size rest))

unfoldable pub message_at : List ℕ → Result Message ParseError
message_at [] = Err Format
message_at (first ∷ []) = Err Format
message_at (first ∷ code ∷ []) = Err Format
message_at (first ∷ code ∷ high ∷ []) = Err Format
message_at (first ∷ code ∷ high ∷ low ∷ rest) = if first / 64 == 1 then fields_at first code (256 * high + low) rest else Err Version

-- ---- a plaintext

abbrev pub plaintext_with : ℕ → Body → Plaintext
plaintext_with code body = record { code = code; options = body.0; payload = body.1 }

unfoldable pub plaintext_at : List ℕ → Option Plaintext
plaintext_at [] = None
plaintext_at (code ∷ body) = option_map (plaintext_with code) (body_at 0 body)
