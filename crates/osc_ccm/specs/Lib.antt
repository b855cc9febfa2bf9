-- Definitions that the contracts cite.
pub mod Ccm
pub mod Limits
pub mod Errors
pub mod OneText
pub mod Ciphers
pub mod Inner
unfoldable pub use Ccm.{blocks, ciphered, filled, key_stream, stream_block, tag_of}
pub use Ccm.{IsSealing, aad_blocks, block_count, mac_step, piece, two_bytes, xor}
pub use Ciphers.{IsLongerBy, Sealing, Sealings, SealsOneText, Tags, chosen_sealing, chosen_tag, longer_by_same}
pub use Limits.{IsInRange, IsTooLong, most_tag}
pub use OneText.{ciphered-ciphered, length-xor, text_of_sealing}
