-- What a file holds is a text.
use Rattle.std.proofs.Common.{◌≡◌, ◌<◌, ℕ, true, List, arith}
use Rattle.std.specs.Str.{IsUtf8}
use Rattle.std.proofs.lemmas.Str.{IsUtf8-from_ascii}
use Rattle.std.proofs.lemmas.Str.Ascii.{IsAscii-from_all}
use Rattle.hex.specs.Hex.{is_hex_digit}
use Rattle.hex.proofs.HexLemmas.{decode_of-ok}
use Rattle.osc_script.specs.{SpellsHexWithin}

digit_is_ascii : (b : ℕ) → is_hex_digit b ≡ true → b < 128
digit_is_ascii b digit = grind arith

-- hexadecimal digits are UTF-8
pub no_text : (least most : ℕ) (text : List ℕ) → ¬ IsUtf8 text → (bytes : List ℕ) → ¬ SpellsHexWithin least most text bytes
no_text least most text none bytes s =
    let digits = (decode_of-ok text bytes s.digits).1 in
    none (IsUtf8-from_ascii text (IsAscii-from_all text (λ k d small. digit_is_ascii _ (digits k d small))))
