-- How a builder of a plaintext is seen, and what it keeps.
use Rattle.std.specs.Prelude.{◌≡◌, List, ℕ, Option, Some, None}
use Rattle.osc_coap.specs.declared.plaintext.PlaintextBuilder.TheInside.{Inside}
use Rattle.osc_coap.specs.Plaintext.{Plaintext, SpellsPlaintext}
use Rattle.osc_coap.specs.Reading.{plaintext_at}
use Rattle.osc_coap.specs.Building.{last_number, bare_plaintext}

-- the plaintext that was read; there always is one, as IsKept says
abbrev pub found : Option Plaintext → Plaintext
found (Some p) = p
found None = bare_plaintext 0

abbrev pub plaintext_in : List ℕ → Plaintext
plaintext_in bytes = found (plaintext_at bytes)

abbrev pub view : Inside → Plaintext
view b = plaintext_in b.written.bytes.items

pub record IsKept (b : Inside) : Type 0 where
  pub spelled : SpellsPlaintext b.written.bytes.items (view b)
  pub last : b.written.last ≡ last_number 0 (view b).options
