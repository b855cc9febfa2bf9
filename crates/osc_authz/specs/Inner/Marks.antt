-- Marks of bytes, each of which stands for the ID that is this one byte. No public contract rests on this.
use Rattle.std.specs.Prelude.{◌≡◌, ℕ, ◌<◌, Bool, false, ◌||◌, List, [], ◌∷◌, bytes_eq, slice_index_or}
use Rattle.std.specs.List.{list_any}

abbrev pub is_marked : List Bool → ℕ → Bool
is_marked marks byte = slice_index_or marks byte false

-- the byte is one of these IDs
abbrev pub is_among : List (List ℕ) → ℕ → Bool
is_among ids byte = list_any (bytes_eq (byte ∷ [])) ids

-- The bytes that are among these IDs are marked now, and otherwise those that were.
abbrev pub AddsMarks : List (List ℕ) → List Bool → List Bool → Type 0
AddsMarks ids old new = (byte : ℕ) → byte < 256 → is_marked new byte ≡ (is_among ids byte || is_marked old byte)
