-- Definitions that the contracts cite.
pub mod Encrypt0
pub mod Errors
pub mod Inner
unfoldable pub use Encrypt0.{enc_structure}
pub use Encrypt0.{IsObject, IsProtected, NamesAlgorithm, object_item, parameter, untagged}
