-- How long what a cipher takes may be.
use Rattle.std.specs.Prelude.{ℕ, ◌<◌, ◌≤◌, ◌⊎◌}

-- the most bytes of a text: their number is written in 2 bytes (RFC 3610 section 2, L = 2)
abbrev pub most_text : ℕ
most_text = 65535

-- the most bytes of associated data: their number is written in 2 bytes below 2^16 - 2^8 (RFC 3610 section 2.2)
abbrev pub most_aad : ℕ
most_aad = 65279

-- the most bytes of a tag (RFC 3610 section 2)
abbrev pub most_tag : ℕ
most_tag = 16

-- a text and associated data of these lengths can be sealed
abbrev pub IsInRange : ℕ → ℕ → Type 0
IsInRange text_length aad_length = (text_length ≤ most_text) × (aad_length ≤ most_aad)

-- one of them is too long for that
abbrev pub IsTooLong : ℕ → ℕ → Type 0
IsTooLong text_length aad_length = (most_text < text_length) ⊎ (most_aad < aad_length)
