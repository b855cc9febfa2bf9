-- Options in two parts, and options of which some are left out.
use Rattle.std.proofs.Common.{◌≡◌, ℕ, ◌+◌, ◌-◌, ◌≤◌, Bool, List, [], ◌∷◌, ◌++◌, refl, ap, arith, inl, inr}
use Rattle.std.specs.Prelude.{filter}
use Rattle.std.proofs.lemmas.Bool.{cases_Bool}
use Rattle.osc_coap.specs.{NumberAndValue, AreOptions, extension_length, options_length, last_number}
use Rattle.osc_coap.proofs.LengthLaws.{extension_length-add}

-- ---- two parts

-- the last number of two parts is that of the second
pub last_number-append : (before : ℕ) (front back : List NumberAndValue) → last_number before (front ++ back) ≡ last_number (last_number before front) back
last_number-append before [] back = refl
last_number-append before (option ∷ front) back = last_number-append option.0 front back

-- two parts make options
pub AreOptions-join : (before : ℕ) (front back : List NumberAndValue) → AreOptions before front → AreOptions (last_number before front) back → AreOptions before (front ++ back)
AreOptions-join before [] back p q = q
AreOptions-join before (option ∷ front) back p q = (p.0, AreOptions-join option.0 front back p.1 q)

-- each part of options is options
pub AreOptions-front : (before : ℕ) (front back : List NumberAndValue) → AreOptions before (front ++ back) → AreOptions before front
AreOptions-front before [] back p = tt
AreOptions-front before (option ∷ front) back p = (p.0, AreOptions-front option.0 front back p.1)

-- so is the back part
pub AreOptions-back : (before : ℕ) (front back : List NumberAndValue) → AreOptions before (front ++ back) → AreOptions (last_number before front) back
AreOptions-back before [] back p = p
AreOptions-back before (option ∷ front) back p = AreOptions-back option.0 front back p.1

-- ---- after a smaller number

-- options after a smaller number
AreOptions_below : (low high : ℕ) (options : List NumberAndValue) → low ≤ high → AreOptions high options → AreOptions low options
AreOptions_below low high [] le p = tt
AreOptions_below low high (option ∷ options) le p = (record { rises = omega (arith, p.0.rises); number = p.0.number; size = p.0.size }, p.1)

-- the last number after a smaller one
last_number_below : (low high : ℕ) (options : List NumberAndValue) → low ≤ high → last_number low options ≤ last_number high options
last_number_below low high [] le = le
last_number_below low high (option ∷ options) le = omega arith

-- the bytes after a smaller number: at most those of the step between
options_length_below : (low high : ℕ) (options : List NumberAndValue) → low ≤ high → AreOptions high options → options_length low options ≤ 1 + extension_length (high - low) + options_length high options
options_length_below low high [] le p = omega arith
options_length_below low high (option ∷ options) le p =
    let steps : option.0 - low ≡ (option.0 - high) + (high - low) = omega (arith, p.0.rises) in
    omega (arith, ap extension_length steps, extension_length-add (option.0 - high) (high - low))

-- ---- some left out

-- some of the options are options
pub AreOptions-filter : (keeps : NumberAndValue → Bool) (before : ℕ) (options : List NumberAndValue) → AreOptions before options → AreOptions before (filter keeps options)
AreOptions-filter keeps before [] p = tt
AreOptions-filter keeps before (option ∷ options) p =
    let rest = AreOptions-filter keeps option.0 options p.1 in
    elim (cases_Bool (keeps option)) [
      | inl kept ↦ rw kept (p.0, rest)
      | inr out ↦ rw out (AreOptions_below before option.0 (filter keeps options) p.0.rises rest)
    ]

-- the last number is no larger
pub last_number-filter : (keeps : NumberAndValue → Bool) (before : ℕ) (options : List NumberAndValue) → AreOptions before options → last_number before (filter keeps options) ≤ last_number before options
last_number-filter keeps before [] p = omega arith
last_number-filter keeps before (option ∷ options) p =
    let rest = last_number-filter keeps option.0 options p.1 in
    elim (cases_Bool (keeps option)) [
      | inl kept ↦ rw kept rest
      | inr out ↦ rw out (omega (arith, rest, last_number_below before option.0 (filter keeps options) p.0.rises))
    ]

-- the spelling is no longer
pub options_length-filter : (keeps : NumberAndValue → Bool) (before : ℕ) (options : List NumberAndValue) → AreOptions before options → options_length before (filter keeps options) ≤ options_length before options
options_length-filter keeps before [] p = omega arith
options_length-filter keeps before (option ∷ options) p =
    let rest = options_length-filter keeps option.0 options p.1 in
    elim (cases_Bool (keeps option)) [
      | inl kept ↦ rw kept (omega (arith, rest))
      | inr out ↦ rw out (omega (arith, rest, options_length_below before option.0 (filter keeps options) p.0.rises (AreOptions-filter keeps option.0 options p.1)))
    ]
