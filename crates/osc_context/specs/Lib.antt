-- Definitions that the contracts cite.
pub mod Algorithm
pub mod Derivation
pub mod Nonce
pub mod MasterSalt
pub mod Errors
pub use Algorithm.{algorithm_of}
unfoldable pub use Derivation.{derived}
pub use Derivation.{Accepted, KeyName, Recipient, accepted_of, common_iv_of, key_name_of, key_of, other_side, recipient_of, sender_of, taken_of}
unfoldable pub use MasterSalt.{client_nonce, master_salt, server_nonce}
pub use MasterSalt.{string_at}
unfoldable pub use Nonce.{nonce, partial_iv}
pub use Nonce.{five_bytes, greatest_number, longest_id, nonce_of, padded, without_zeros}
