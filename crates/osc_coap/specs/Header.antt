-- The first four bytes of a datagram, whatever follows them (RFC 7252 section 3, figure 7).
use Rattle.std.specs.Prelude.{◌≡◌, ◌≢◌, ℕ, ◌+◌, ◌*◌, ◌/◌, ◌%◌, ◌≤◌, List, length, slice_index}
use Rattle.osc_coap.specs.declared.kind.Kind.{Kind}
use Rattle.osc_coap.specs.Kind.{kind_bits}

-- the field "version": the first two bits
abbrev pub version_of : List ℕ → ℕ
version_of bytes = slice_index bytes 0 / 64

-- the field "type": the next two
abbrev pub type_of : List ℕ → ℕ
type_of bytes = slice_index bytes 0 / 16 % 4

-- the message ID, in network byte order
abbrev pub id_of : List ℕ → ℕ
id_of bytes = 256 * slice_index bytes 2 + slice_index bytes 3

-- long enough for a header, of version 1, with this type and this message ID
pub record HasHeader (bytes : List ℕ) (kind : Kind) (id : ℕ) : Type 0 where
  pub long : 4 ≤ length bytes
  pub version : version_of bytes ≡ 1
  pub type_is : type_of bytes ≡ kind_bits kind
  pub id_is : id_of bytes ≡ id

-- long enough for a header, of another version
pub record HasOtherVersion (bytes : List ℕ) : Type 0 where
  pub long : 4 ≤ length bytes
  pub version : version_of bytes ≢ 1
