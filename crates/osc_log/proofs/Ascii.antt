-- What is shown of a path is ASCII.
use Rattle.std.proofs.Common.{◌≡◌, ◌<◌, ℕ, suc, zero, List, [], ◌∷◌, map, arith}
use Rattle.std.proofs.lemmas.Str.{IsUtf8-from_ascii}
use Rattle.std.specs.Prelude.{slice_index}
use Rattle.std.specs.Str.{IsUtf8}
use Rattle.osc_log.specs.{shown_byte}

shown_small : (byte : ℕ) → shown_byte byte < 128
shown_small byte = grind arith

shown_ascii : (bytes : List ℕ) (i : ℕ) → slice_index (map shown_byte bytes) i < 128
shown_ascii [] i = grind arith
shown_ascii (byte ∷ bytes) zero = shown_small byte
shown_ascii (byte ∷ bytes) (suc i) = shown_ascii bytes i

pub shown_utf8 : (bytes : List ℕ) → IsUtf8 (map shown_byte bytes)
shown_utf8 bytes = IsUtf8-from_ascii (map shown_byte bytes) (shown_ascii bytes)
