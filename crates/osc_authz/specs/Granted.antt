-- What a client may be granted (RFC 9203 section 3.2.1): lengths under which contexts can be used.
use Rattle.std.specs.Prelude.{ℕ, ◌≤◌, List, length}

-- a master secret, which isn't empty
abbrev pub IsSecret : List ℕ → Type 0
IsSecret bytes = (1 ≤ length bytes) × (length bytes ≤ 64)

-- a salt, or an id context
abbrev pub IsShort : List ℕ → Type 0
IsShort bytes = length bytes ≤ 64
