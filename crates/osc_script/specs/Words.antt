-- What single words of a script spell.
use Rattle.std.specs.Prelude.{◌≡◌, ℕ, ◌<◌, ◌==◌, ◌⊎◌, List, [], ◌∷◌, ◌++◌, length, replicate, take, codes, Option, Some, None}
use Rattle.std.specs.List.{slice_split}
use Rattle.osc_model.specs.declared.algorithm.Algorithm.{Algorithm}
use Rattle.osc_model.specs.declared.algorithm.Algorithm.TheVariants.{EightByteTag, SixteenByteTag}
use Rattle.osc_script.specs.Values.{SpellsHex, SpellsNumber, SpellsShortNumber}
use Rattle.osc_script.specs.declared.line.Change.{Change}

-- the words of a line, parted by one space each
abbrev pub words_of : List ℕ → List (List ℕ)
words_of line = slice_split (λ b. b == 32) line

-- a number of 16 bits, or `none`
abbrev pub SpellsFormat : List ℕ → Option ℕ → Type 0
SpellsFormat word None = word ≡ codes "none"
SpellsFormat word (Some format) = SpellsShortNumber word format

-- pairs of hexadecimal digits in either case, at least one pair
pub record SpellsPairs (part : List ℕ) (bytes : List ℕ) : Type 0 where
  pub some : 0 < length part
  pub digits : SpellsHex part bytes

-- a pair of hexadecimal digits, `*` and a count: the byte that many times
pub record SpellsRepeated (part : List ℕ) (bytes : List ℕ) : Type 0 where
  pub byte : ℕ
  pub count : ℕ
  pub pair : List ℕ
  pub digits : List ℕ
  pub whole : part ≡ pair ++ 42 ∷ digits
  pub is_pair : SpellsHex pair (byte ∷ [])
  pub is_count : SpellsNumber digits count
  pub repeated : bytes ≡ replicate count byte

-- one part after another
abbrev pub SpellParts : List (List ℕ) → List ℕ → Type 0
SpellParts [] bytes = bytes ≡ []
SpellParts (part ∷ parts) bytes =
    (first rest : List ℕ) × (SpellsPairs part first ⊎ SpellsRepeated part first) × SpellParts parts rest × (bytes ≡ first ++ rest)

-- `-` for no bytes, or parts joined by `+`
abbrev pub SpellsBytes : List ℕ → List ℕ → Type 0
SpellsBytes word bytes = ((word ≡ codes "-") × (bytes ≡ [])) ⊎ SpellParts (slice_split (λ b. b == 43) word) bytes

-- How many bytes of a datagram or a payload are kept: a datagram has at most 1,152 of them (RFC 7252 section 4.6), so one more says that it is too
-- long, and nothing that a script does depends on what follows.
abbrev pub most_kept : ℕ
most_kept = 1153

-- the first of the bytes that a word spells
abbrev pub SpellsKept : List ℕ → List ℕ → Type 0
SpellsKept word kept = (bytes : List ℕ) × SpellsBytes word bytes × (kept ≡ take most_kept bytes)

-- NAME= and a number, or no word at all
abbrev pub SpellsDate : List ℕ → List (List ℕ) → Option ℕ → Type 0
SpellsDate name words None = words ≡ []
SpellsDate name words (Some seconds) = (number : List ℕ) × (words ≡ (name ++ number) ∷ []) × SpellsNumber number seconds

-- alg=30, or no word at all
abbrev pub SpellsAlgorithm : List (List ℕ) → Algorithm → Type 0
SpellsAlgorithm words EightByteTag = words ≡ []
SpellsAlgorithm words SixteenByteTag = words ≡ codes "alg=30" ∷ []

-- OFFSET HEX for each change, HEX a pair of hexadecimal digits
abbrev pub SpellChanges : List (List ℕ) → List Change → Type 0
SpellChanges words [] = words ≡ []
SpellChanges words (change ∷ changes) = (offset hex : List ℕ) × (rest : List (List ℕ)) × (words ≡ offset ∷ hex ∷ rest)
    × SpellsNumber offset change.offset × SpellsPairs hex (change.mask ∷ []) × SpellChanges rest changes
