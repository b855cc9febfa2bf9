-- Options appended one at a time: what is refused on the way is no part of what fits.
use Rattle.std.proofs.Common.{◌≡◌, ℕ, ◌≤◌, ◌+◌, List, [], ◌∷◌, ◌++◌, length, Result, Ok, Err, refl, ap, append_assoc, arith}
use Rattle.std.specs.Result.{IsErr, IsOk}
use Rattle.std.proofs.lemmas.Bool.{both_ways}
use Rattle.osc_coap.specs.{NumberAndValue, spelling, options_length, spelled_length, last_number, with_option}
use Rattle.osc_coap.specs.Message.{Message}
use Rattle.osc_options.specs.Inner.Merging.{with_options}

-- the last number is that of the option after the others
pub last_number-push : (before : ℕ) (options : List NumberAndValue) (option : NumberAndValue) → last_number before (options ++ option ∷ []) ≡ option.0
last_number-push before [] option = refl
last_number-push before (first ∷ options) option = last_number-push first.0 options option

options_length-append : (before : ℕ) (front back : List NumberAndValue) → options_length before (front ++ back) ≡ options_length before front + options_length (last_number before front) back
options_length-append before [] back = omega arith
options_length-append before (option ∷ front) back = omega (arith, options_length-append option.0 front back)

-- what a `?` refuses, where the whole can't fit either
pub refused : {T E P : Type 0} (r : Result T E) → IsErr r → ¬ P → (IsOk r → P) × (P → IsOk r)
refused (Ok x) is cannot = absurd (both_ways _ refl is)
refused (Err e) is cannot = (λ ok. absurd (both_ways _ refl ok), λ p. absurd (cannot p))

-- ---- a message

-- how long a spelling is
abbrev pub LengthLaw : Type 0
LengthLaw = (m : Message) → length (spelling m) ≡ spelled_length m

pub with_options-more : (m : Message) (number : ℕ) (value : List ℕ) (rest : List NumberAndValue) → with_options (with_option m number value) rest ≡ with_options m ((number, value) ∷ rest)
with_options-more m number value rest = ap (λ (options : List NumberAndValue). record m { options = options }) (append_assoc m.options ((number, value) ∷ []) rest)

-- the beginning is no longer than the whole
pub options_front : LengthLaw → (m : Message) (options : List NumberAndValue) → length (spelling m) ≤ length (spelling (with_options m options))
options_front law m options = omega (arith, law m, law (with_options m options), options_length-append 0 m.options options)
