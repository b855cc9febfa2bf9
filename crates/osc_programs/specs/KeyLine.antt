-- The line that `osc key` prints.
use Rattle.std.specs.Prelude.{List, ℕ}
use Rattle.hex.specs.Hex.{encode_lower}
use Rattle.osc_simulation.specs.{line}

-- bytes in hexadecimal, and a line feed
abbrev pub key_text : List ℕ → List ℕ
key_text key = line (encode_lower key)
