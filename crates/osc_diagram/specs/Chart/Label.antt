-- What is at an arrow.
use Rattle.std.specs.Prelude.{ℕ, ◌/◌, ◌%◌, ◌==◌, Bool, if◌then◌else◌, List, [], ◌∷◌, ◌++◌, Option, Some, None, Result, Ok, Err, codes, decimal}
use Rattle.std.specs.List.{list_any}
use Rattle.hex.specs.Hex.{encode_lower}
use Rattle.osc_coap.specs.{kind_name, message_at}
use Rattle.osc_coap.specs.Message.{Message}
use Rattle.osc_coap.specs.declared.error.ParseError.{ParseError}
use Rattle.osc_model.specs.{code_text}
use Rattle.osc_model.specs.declared.code.Code.{Code}
use Rattle.osc_diagram.specs.Chart.Capture.{two}
use Rattle.osc_diagram.specs.declared.chart.chart.Arrow.{Arrow}
use Rattle.osc_diagram.specs.declared.chart.chart.Way.{Way}
use Rattle.osc_diagram.specs.declared.chart.chart.Way.TheVariants.{Sent, Again, Forged}

abbrev pub has_oscore : Message → Bool
has_oscore message = list_any (λ option. option.0 == 9) message.options

-- a token in hexadecimal, if it isn't empty
abbrev pub token_text : List ℕ → List ℕ
token_text [] = []
token_text (byte ∷ bytes) = codes " token " ++ encode_lower (byte ∷ bytes)

-- what is inside, where the run knows it
abbrev pub inner_text : Option Code → List ℕ
inner_text None = []
inner_text (Some code) = codes " with " ++ code_text code.0 ++ codes " inside"

-- the option OSCORE, and the code that it hides
abbrev pub oscore_text : Bool → Option Code → List ℕ
oscore_text has_oscore inner = if has_oscore then codes " oscore" ++ inner_text inner else []

-- type, code, message ID and token, and whether it is protected
abbrev pub message_text : Message → Option Code → List ℕ
message_text message inner =
    kind_name message.kind ++ codes " " ++ code_text message.code ++ codes " id " ++ encode_lower (two message.id) ++ token_text message.token
    ++ oscore_text (has_oscore message) inner

-- the same of bytes, or `?` where they are no message
abbrev pub found_text : Result Message ParseError → Option Code → List ℕ
found_text (Ok message) inner = message_text message inner
found_text (Err error) inner = codes "?"

-- the number of its datagram, where it has one
abbrev pub number_text : Way → List ℕ
number_text (Sent number) = decimal number
number_text (Again number) = decimal number
number_text Forged = []

-- what is said of its way onto the network
abbrev pub way_text : Way → List ℕ
way_text (Sent number) = []
way_text (Again number) = codes "again "
way_text Forged = codes "forged "

abbrev pub label : Arrow → List ℕ
label arrow = way_text arrow.way ++ found_text (message_at arrow.bytes) arrow.inner
