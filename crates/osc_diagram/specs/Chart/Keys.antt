-- The keys of a context, as a line that Wireshark reads.
use Rattle.std.specs.Prelude.{ℕ, List, [], ◌∷◌, ◌++◌, codes, Option, Some, None}
use Rattle.hex.specs.Hex.{encode_lower}
use Rattle.osc_model.specs.declared.algorithm.Algorithm.{Algorithm}
use Rattle.osc_model.specs.declared.algorithm.Algorithm.TheVariants.{EightByteTag, SixteenByteTag}
use Rattle.osc_model.specs.declared.context.ContextName.{ContextName}

-- two values in hexadecimal, each in quotes
abbrev pub pair : List ℕ → List ℕ → List ℕ
pair first second = codes "\"" ++ encode_lower first ++ codes "\",\"" ++ encode_lower second ++ codes "\""

abbrev pub id_context_text : Option (List ℕ) → List ℕ
id_context_text None = []
id_context_text (Some bytes) = encode_lower bytes

-- the client's ID, the server's ID, the master secret, the master salt, the ID context and the algorithm, by its name there
abbrev pub values_line : ContextName → List ℕ
values_line context =
    pair context.client_id context.server_id ++ codes "," ++ pair context.secret context.salt
    ++ codes ",\"" ++ id_context_text context.id_context ++ codes "\",\"AES-CCM-16-64-128 (CCM*)\"\n"

-- Wireshark opens what is sealed under AES-CCM-16-64-128 alone.
abbrev pub line_under : Algorithm → ContextName → List ℕ
line_under EightByteTag context = values_line context
line_under SixteenByteTag context = []

abbrev pub key_line : ContextName → List ℕ
key_line context = line_under context.alg context
