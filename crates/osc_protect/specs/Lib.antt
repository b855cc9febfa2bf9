-- Definitions that the contracts cite.
pub mod Value
pub mod Aad
pub mod Protection
pub mod Inner
unfoldable pub use Aad.{aad_of, external_aad}
pub use Protection.{HasRoomFor, HasShortContext, IsDraft, IsFor, IsProtectedRequest, IsProtectedResponse, IsRequest, IsRequestOf, IsResponse, RoomOf, SaysRequest, SealedRequest, SealedResponse, length_of_request, longest_message, note_of, plain_bytes, reply_with_header, request_length, request_nonce, request_value, request_with, response_length, response_nonce, response_value, response_with}
unfoldable pub use Value.{value_spelling}
pub use Value.{Compressed, HasValueSpelling, SpellsValue, flag_bits, kid_context_bytes, partial_iv_bytes}
