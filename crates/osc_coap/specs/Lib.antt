pub mod Kind
pub mod Code
pub mod Message
pub mod Plaintext
pub mod Header
pub mod Length
pub mod Building
pub mod Errors
pub mod Reading
pub mod MessageRef
pub mod MessageBuilder
pub mod PlaintextRef
pub mod PlaintextBuilder
pub use Building.{bare, bare_plaintext, last_number, payload_of, with_inner_option, with_inner_payload, with_option, with_payload}
pub use Code.{is_request_code, is_response_code}
pub use Header.{HasHeader, HasOtherVersion}
pub use Kind.{kind_bits, kind_name}
pub use Length.{datagram_limit, extension_length, option_length, options_length, payload_length, plaintext_length, spelled_length}
unfoldable pub use Message.{extension, nibble, option_spelling, options_spelling, payload_spelling, spelling}
pub use Message.{AreOptions, HasSpelling, IsBare, IsOptionBehind, NumberAndValue, Spells, header}
pub use MessageBuilder.{IsKept, found, message_in}
pub use MessageRef.{view}
unfoldable pub use Plaintext.{plaintext_spelling}
pub use Plaintext.{HasPlaintextSpelling, SpellsPlaintext}
pub use PlaintextBuilder.{plaintext_in}
unfoldable pub use Reading.{body_at, body_within, extended_at, fields_at, message_at, option_at, plaintext_at}
pub use Reading.{AreBytes, Body, CanBeRead, above, byte_at, is_end, kind_of, options_in, payload_at, payload_in, plaintext_with, two_bytes_at, with_body, ◌>>=◌}
