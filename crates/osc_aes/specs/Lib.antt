pub mod Field
pub mod SubBytes
pub mod KeyExpansion
pub mod Cipher
pub mod Inner
unfoldable pub use Cipher.{add_round_key, cipher, encrypt_block, mix_columns, rounds, shift_rows, sub_bytes}
pub use Cipher.{cell, state_of}
unfoldable pub use Field.{inverse, times_x}
pub use Field.{IsInverse, product, times_power, total}
unfoldable pub use KeyExpansion.{first_words, key_expansion, schedule_word}
pub use KeyExpansion.{add_words, rot_word, round_constant, sub_word, word}
unfoldable pub use SubBytes.{sub_byte}
pub use SubBytes.{affine_bit}
