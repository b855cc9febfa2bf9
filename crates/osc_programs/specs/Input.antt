-- Inputs have an end.
use Rattle.std.specs.Prelude.{◌≤◌, ◌<◌, ℕ, List, length, if◌then◌else◌, nat_le, Option, Some, None, IfSome}
use Rattle.std.specs.Io.KnownBytes.{Consumes}

-- the most bytes of a text of settings
abbrev pub longest_settings : ℕ
longest_settings = 1048576

-- of a script
abbrev pub longest_script : ℕ
longest_script = 16777216

-- of a file that a key or a secret is in
abbrev pub longest_key : ℕ
longest_key = 256

-- of a file that a payload is in
abbrev pub longest_payload_file : ℕ
longest_payload_file = 1048576

-- all the bytes, where they are no more than this
abbrev pub within : ℕ → List ℕ → Option (List ℕ)
within most bytes = if nat_le (length bytes) most then Some bytes else None

-- an input has no more, where its bytes are known
abbrev pub IsWithin : ℕ → Option (List ℕ) → Type 0
IsWithin most input = IfSome input (λ bytes. length bytes ≤ most)

-- or it has
abbrev pub IsBeyond : ℕ → Option (List ℕ) → Type 0
IsBeyond most input = IfSome input (λ bytes. most < length bytes)

-- no more than `most` bytes were taken of an input that had these, where they are known
abbrev pub TakesAtMost : ℕ → Option (List ℕ) → Option (List ℕ) → Type 0
TakesAtMost most old new = (bytes : List ℕ) × (length bytes ≤ most) × Consumes old new bytes
