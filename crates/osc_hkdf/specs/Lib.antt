-- Definitions that the contracts cite.
pub mod Hmac
pub mod Hkdf
pub mod Inner
unfoldable pub use Hkdf.{expand_of, extract_of, output_block, output_blocks}
pub use Hkdf.{salt_or_zeros}
unfoldable pub use Hmac.{hmac_of}
pub use Hmac.{pad}
