-- A text on its way to being encrypted in place.
use Rattle.std.specs.Prelude.{◌≡◌, ℕ, ◌*◌, List, ◌++◌, length, take, drop}
use Rattle.osc_ccm.specs.Ccm.{xor, key_stream}

-- the bytes are the text, its first n pieces xored with the key stream
pub record IsCiphered (key nonce text : List ℕ) (n : ℕ) (bytes : List ℕ) : Type 0 where
  pub done : bytes ≡ xor (take (16 * n) text) (key_stream key nonce n) ++ drop (16 * n) text
  pub streamed : length (key_stream key nonce n) ≡ 16 * n
