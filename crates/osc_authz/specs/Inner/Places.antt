-- Where each recipient ID is in a table: for each byte, which stands for the ID that is this one byte, the place of the token id that has
-- the context, or 255. No public contract rests on this.
use Rattle.std.specs.Prelude.{◌≡◌, ℕ, ◌<◌, ◌==◌, if◌then◌else◌, List, [], ◌∷◌, Option, Some, None, position, slice_index_or}
use Rattle.osc_authz.specs.Table.{holds_id}
use Rattle.osc_authz.specs.declared.token_entry.TokenEntry.{TokenEntry}

abbrev pub nowhere : ℕ
nowhere = 255

abbrev pub place_at : List ℕ → ℕ → ℕ
place_at places byte = slice_index_or places byte nowhere

abbrev pub told : ℕ → Option ℕ
told place = if place == nowhere then None else Some place

-- each byte has the place of the token id that has its context
abbrev pub IsIndex : List ℕ → List TokenEntry → Type 0
IsIndex places table = (byte : ℕ) → byte < 256 → told (place_at places byte) ≡ position (holds_id (byte ∷ [])) table
