-- How values are printed.
use Rattle.std.specs.Prelude.{ℕ, ◌/◌, ◌%◌, nat_lt, if◌then◌else◌, List, [], ◌∷◌, ◌++◌, length, Option, Some, None, codes, decimal}
use Rattle.hex.specs.Hex.{encode_lower}

-- a line's text and the line feed that ends it
abbrev pub line : List ℕ → List ℕ
line text = text ++ 10 ∷ []

abbrev pub format_text : Option ℕ → List ℕ
format_text None = codes "none"
format_text (Some format) = decimal format

-- hexadecimal, or `-` for none
abbrev pub bytes_text : List ℕ → List ℕ
bytes_text [] = codes "-"
bytes_text (byte ∷ bytes) = encode_lower (byte ∷ bytes)

-- the same, or only how many there are where they are more than 32
abbrev pub short_text : List ℕ → List ℕ
short_text bytes = if nat_lt 32 (length bytes) then codes "bytes=" ++ decimal (length bytes) else bytes_text bytes
