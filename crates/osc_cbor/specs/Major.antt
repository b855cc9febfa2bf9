-- The numbers of the major types (RFC 8949 section 3.1).
use Rattle.std.specs.Prelude.{ℕ}
use Rattle.osc_cbor.specs.declared.heads.Major.{Major}
use Rattle.osc_cbor.specs.declared.heads.Major.TheVariants.{Unsigned, Negative, Bytes, Text, Array, Map, Tag}

abbrev pub major_number : Major → ℕ
major_number Unsigned = 0
major_number Negative = 1
major_number Bytes = 2
major_number Text = 3
major_number Array = 4
major_number Map = 5
major_number Tag = 6
