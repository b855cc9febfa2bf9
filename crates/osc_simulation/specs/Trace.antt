-- The lines that a simulation prints.
use Rattle.std.specs.Prelude.{ℕ, ◌==◌, Bool, true, false, if◌then◌else◌, List, [], ◌∷◌, ◌++◌, codes, decimal, flat_map}
use Rattle.std.specs.FinMap as map
use Rattle.std.specs.List.{list_any}
use Rattle.hex.specs.Hex.{encode_lower}
use Rattle.osc_coap.specs.{kind_name}
use Rattle.osc_coap.specs.Message.{Message}
use Rattle.osc_options.specs.{oscore}
use Rattle.osc_model.specs.{Answer}
use Rattle.osc_model.specs.Tree.{Tree}
use Rattle.osc_model.specs.declared.resource.Resource.{Resource}
use Rattle.osc_simulation.specs.Text.{line, format_text, short_text}
use Rattle.osc_model.specs.{code_text}

-- TYPE CODE, and `oscore` after them where the message has an OSCORE option
abbrev pub message_text : Message → List ℕ
message_text message =
    kind_name message.kind ++ codes " " ++ code_text message.code
    ++ (if list_any (λ option. option.0 == oscore) message.options then codes " oscore" else [])

-- the bytes, where they are wanted
abbrev pub wanted_bytes_text : Bool → List ℕ → List ℕ
wanted_bytes_text with_bytes bytes = if with_bytes then codes " " ++ encode_lower bytes else []

-- an event that prints nothing else prints `nothing`
abbrev pub or_nothing : List ℕ → List ℕ
or_nothing [] = line (codes "nothing")
or_nothing (byte ∷ text) = byte ∷ text

-- tree PATH FORMAT BYTES
abbrev pub resource_text : (List ℕ × Resource) → List ℕ
resource_text entry = line (codes "tree " ++ entry.0 ++ codes " " ++ format_text entry.1.format ++ codes " " ++ short_text entry.1.payload)

-- how many requests are in the history, and whether what is assumed of the run held
abbrev pub history_text : ℕ → List ℕ
history_text entries = line (codes "history " ++ decimal entries)

abbrev pub premise_text : Bool → List ℕ
premise_text true = line (codes "premise: held")
premise_text false = line (codes "premise: broken")

-- At the end: each resource in the order of its path's text, and these two lines.
abbrev pub end_text : Tree → ℕ → Bool → List ℕ
end_text tree entries held = flat_map resource_text (map.entries tree) ++ history_text entries ++ premise_text held

-- alone CLIENT NUMBER CODE
abbrev pub alone_line : List ℕ → Answer → List ℕ
alone_line client answer = line (codes "alone " ++ client ++ codes " " ++ decimal answer.0 ++ codes " " ++ code_text answer.1.code.0)

-- what a client's entries are answered alone, a line for each
abbrev pub alone_text : List ℕ → List Answer → List ℕ
alone_text client answers = flat_map (alone_line client) answers

-- These words are before each line of the text; whether a line begins here, and then after each line feed.
abbrev pub words_before : List ℕ → Bool → List ℕ → List ℕ
words_before words begins [] = []
words_before words begins (byte ∷ text) = (if begins then words else []) ++ byte ∷ words_before words (byte == 10) text

-- each line of the text after this number: `N: `
abbrev pub numbered : ℕ → List ℕ → List ℕ
numbered number text = words_before (decimal number ++ codes ": ") true text

-- line N: bad
abbrev pub bad_line_text : ℕ → List ℕ
bad_line_text number = line (codes "line " ++ decimal number ++ codes ": bad")
