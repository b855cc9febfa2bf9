-- How a builder is seen, and what it keeps.
use Rattle.std.specs.Prelude.{◌≡◌, List, ℕ, [], Result, Ok, Err}
use Rattle.osc_coap.specs.declared.kind.Kind.TheVariants.{Confirmable}
use Rattle.osc_coap.specs.declared.error.ParseError.{ParseError}
use Rattle.osc_coap.specs.declared.builder.MessageBuilder.TheInside.{Inside}
use Rattle.osc_coap.specs.Message.{Message, Spells}
use Rattle.osc_coap.specs.Reading.{message_at}
use Rattle.osc_coap.specs.Building.{last_number, bare}

-- the message that was read; there always is one, as IsKept says
abbrev pub found : Result Message ParseError → Message
found (Ok m) = m
found (Err e) = bare Confirmable 0 0 []

abbrev pub message_in : List ℕ → Message
message_in bytes = found (message_at bytes)

abbrev pub view : Inside → Message
view b = message_in b.written.bytes.items

pub record IsKept (b : Inside) : Type 0 where
  pub spelled : Spells b.written.bytes.items (view b)
  pub last : b.written.last ≡ last_number 0 (view b).options
