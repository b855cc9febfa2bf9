-- What hexadecimal digits spell.
use Rattle.std.proofs.Common.{◌≡◌, ℕ, ◌*◌, List, length, Option, Some, None, Result, Ok, Err, sym, ap, ◌∙◌, arith}
use Rattle.std.specs.Result.{result_ok}
use Rattle.hex.specs.Hex.{decode_of, decode_sized}
use Rattle.hex.specs.declared.error.FromHexError.{FromHexError}
use Rattle.hex.proofs.HexLemmas.{decode_of-ok, decode_sized-ok, decode_sized-twice}
use Rattle.osc_script.specs.Inner.Reading.{decoded}
use Rattle.osc_script.specs.{Reads, SpellsHex, SpellsHexWithin}

-- as many bytes as there is room for
pub array_read : (n : ℕ) (text : List ℕ) (d : Result (List ℕ) FromHexError) (r : Option (List ℕ))
    → d ≡ decode_sized text n → r ≡ result_ok d → Reads (SpellsHexWithin n n text) r
array_read n text (Ok bytes) None e h = absurd cc
array_read n text (Err x) (Some found) e h = absurd cc
array_read n text (Ok bytes) (Some found) e h =
    let same : found ≡ bytes = cc in
    let long = decode_sized-ok text n bytes (sym e) in
    let read : decode_of text ≡ Ok found = rw same (sym (decode_sized-twice text n long) ∙ sym e) in
    let twice = (decode_of-ok text found read).2 in
    record { digits = read; at_least = omega (arith, long, twice); at_most = omega (arith, long, twice) }
array_read n text (Err x) None e h = λ bytes s.
    let twice = (decode_of-ok text bytes s.digits).2 in
    let long : length text ≡ 2 * n = omega (arith, twice, s.at_least, s.at_most) in
    let read : Err x ≡ Ok bytes = e ∙ (decode_sized-twice text n long ∙ s.digits) in
    absurd cc

-- what was decoded is what the digits spell
pub some_decoded : (text bytes : List ℕ) → Some bytes ≡ decoded (decode_of text) → SpellsHex text bytes
some_decoded text bytes e = of (decode_of text) e
  where
    of : (r : Result (List ℕ) FromHexError) → Some bytes ≡ decoded r → r ≡ Ok bytes
    of (Ok x) e = cc
    of (Err x) e = absurd cc

pub none_decoded : (text : List ℕ) → None ≡ decoded (decode_of text) → (bytes : List ℕ) → ¬ SpellsHex text bytes
none_decoded text e bytes s = let no : None ≡ Some bytes = e ∙ ap decoded s in absurd cc
