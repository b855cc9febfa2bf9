-- A file of more than 256 bytes holds no key and no secret.
use Rattle.std.proofs.Common.{◌+◌, ◌-◌, ◌<◌, ◌≤◌, ℕ, Bool, true, false, List, [], ◌∷◌, length, if◌then◌else◌, take, Option, Some, None, arith}
use Rattle.std.proofs.lemmas.List.{length-take-le}
use Rattle.std.specs.Option.{IfSome}
use Rattle.hex.proofs.HexLemmas.{decode_of-ok}
use Rattle.osc_script.specs.{SpellsHexWithin}
use Rattle.osc_words.specs.{Holds}
use Rattle.osc_words.specs.Sources.{ends_in, without_end}
use Rattle.osc_words.specs.declared.hidden_option.HiddenOption.{HiddenOption}
use Rattle.osc_words.specs.declared.words.WordsError.{WordsError}
use Rattle.osc_words.specs.declared.words.WordsError.TheVariants.{Clap, Value, NotOne, Unread, Memory}
use Rattle.osc_programs.specs.TokenFiles.{HasNoBytes, HoldsNone}

-- the end of a line is of two bytes at most
cut : (n : ℕ) (bytes : List ℕ) → n ≤ 2 → length bytes ≤ length (take (length bytes - n) bytes) + 2
cut n bytes few =
    let long = length-take-le (length bytes - n) bytes (omega arith) in
    omega (arith, long, few)

end_is_short : (bytes : List ℕ) → length bytes ≤ length (without_end bytes) + 2
end_is_short bytes = by (ends_in (13 ∷ 10 ∷ []) bytes) (ends_in (10 ∷ []) bytes)
  where
    by : (both one : Bool) → length bytes ≤ length (if both then take (length bytes - 2) bytes else if one then take (length bytes - 1) bytes else bytes) + 2
    by true one = cut 2 bytes (omega arith)
    by false true = cut 1 bytes (omega arith)
    by false false = omega arith

no_more : (least most : ℕ) (bytes value : List ℕ) → most ≤ 64 → 256 < length bytes → ¬ Holds (SpellsHexWithin least most) bytes value
no_more least most bytes value few many holds =
    let twice = (decode_of-ok (without_end bytes) value holds.digits).2 in
    let short = end_is_short bytes in
    let most_bytes = holds.at_most in
    absurd (omega (arith, twice, short, most_bytes, few, many))

beyond : (known : Option (List ℕ)) (least most : ℕ) → most ≤ 64 → IfSome known (λ bytes. 256 < length bytes)
    → IfSome known (λ bytes. (value : List ℕ) → ¬ Holds (SpellsHexWithin least most) bytes value)
beyond None least most few many = tt
beyond (Some bytes) least most few many = λ value. no_more least most bytes value few many

pub holds_none : (least most : ℕ) (option : HiddenOption) (file : Option (List ℕ)) (error : WordsError) → most ≤ 64
    → HasNoBytes option file error → HoldsNone (SpellsHexWithin least most) option file error
holds_none least most option file (Clap error) few h = absurd h
holds_none least most option file (Value refused) few h = (h.0, beyond file least most few h.1)
holds_none least most option file (NotOne choice) few h = absurd h
holds_none least most option file (Unread unread) few h = h
holds_none least most option file Memory few h = tt
