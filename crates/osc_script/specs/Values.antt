-- What texts spell, whoever reads them: numbers, bytes in hexadecimal, methods and scopes.
use Rattle.std.specs.Prelude.{◌≡◌, ℕ, ◌<◌, ◌≤◌, ◌^◌, List, length, map, Option, Some, None, Ok}
use Rattle.std.specs.Str.Parse.{IsNumeral, digits_value}
use Rattle.hex.specs.Hex.{decode_of}
use Rattle.osc_model.specs.declared.code.Method.{Method}
use Rattle.osc_cbor.specs.{array, spelling}
use Rattle.osc_scope.specs.{entry_items, Written, IsScopeText, entry_of, name_of}

-- What was found is such, and nothing was found only where nothing is.
abbrev pub Reads : {X : Type 0} → (X → Type 0) → Option X → Type 0
Reads P (Some x) = P x
Reads {X} P None = (x : X) → ¬ P x

-- one decimal digit or more, without a sign, for a number of 64 bits
pub record SpellsNumber (word : List ℕ) (n : ℕ) : Type 0 where
  pub digits : IsNumeral 10 word
  pub value : digits_value 10 word ≡ n
  pub fits : n < 2 ^ 64

-- the same of 16 bits
abbrev pub SpellsShortNumber : List ℕ → ℕ → Type 0
SpellsShortNumber word n = SpellsNumber word n × (n < 2 ^ 16)

-- pairs of hexadecimal digits in either case
abbrev pub SpellsHex : List ℕ → List ℕ → Type 0
SpellsHex text bytes = decode_of text ≡ Ok bytes

-- the same, for a number of bytes in these bounds
pub record SpellsHexWithin (least most : ℕ) (text bytes : List ℕ) : Type 0 where
  pub digits : SpellsHex text bytes
  pub at_least : least ≤ length bytes
  pub at_most : length bytes ≤ most

-- the name of the method
abbrev pub SpellsMethod : List ℕ → Method → Type 0
SpellsMethod word method = word ≡ name_of method

-- the bytes of a scope, of which the word is the text
abbrev pub SpellsScope : List ℕ → List ℕ → Type 0
SpellsScope word scope = (entries : List Written) × IsScopeText word entries × (scope ≡ spelling (array (entry_items (map entry_of entries))))
