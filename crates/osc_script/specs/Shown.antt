-- How bytes are printed that somebody else chose: nothing of them starts a line or moves a cursor.
use Rattle.std.specs.Prelude.{ℕ, ◌&&◌, nat_le, if◌then◌else◌, List, map}

-- a byte, as itself where it is printable ASCII, or else as `?`
abbrev pub shown_byte : ℕ → ℕ
shown_byte byte = if nat_le 33 byte && nat_le byte 126 then byte else 63

abbrev pub shown : List ℕ → List ℕ
shown bytes = map shown_byte bytes
