-- What hexadecimal digits spell.
use Rattle.std.proofs.Common.{◌≡◌, ℕ, ◌*◌, List, length, Ok, Err, sym, ◌∙◌, arith}
use Rattle.hex.specs.Hex.{decode_of, decode_sized}
use Rattle.hex.specs.declared.error.FromHexError.{FromHexError}
use Rattle.hex.proofs.HexLemmas.{decode_of-ok, decode_sized-ok, decode_sized-twice}
use Rattle.osc_words.specs.Settings.{SpellsBytes}

-- as many bytes as there is room for
pub array_read : (n : ℕ) (text bytes : List ℕ) → decode_sized text n ≡ Ok bytes → SpellsBytes n n text bytes
array_read n text bytes e =
    let long = decode_sized-ok text n bytes e in
    let read : decode_of text ≡ Ok bytes = sym (decode_sized-twice text n long) ∙ e in
    let twice = (decode_of-ok text bytes read).2 in
    record { digits = read; at_least = omega (arith, long, twice); at_most = omega (arith, long, twice) }

-- another number of bytes, or none
pub no_array : (n : ℕ) (text : List ℕ) (error : FromHexError) → decode_sized text n ≡ Err error → (bytes : List ℕ) → ¬ SpellsBytes n n text bytes
no_array n text error e bytes s =
    let twice = (decode_of-ok text bytes s.digits).2 in
    let long : length text ≡ 2 * n = omega (arith, twice, s.at_least, s.at_most) in
    let read : Err error ≡ Ok bytes = sym e ∙ (decode_sized-twice text n long ∙ s.digits) in
    absurd cc
