-- What is sent in place of a message is longer than it.
use Rattle.std.proofs.Common.{◌≡◌, ℕ, ◌+◌, ◌-◌, ◌<◌, ◌≤◌, false, ◌==◌, List, [], ◌∷◌, length, ap, arith, inl, inr}
use Rattle.std.proofs.lemmas.Bool.{cases_Bool, cases_lt, lt-ltb, le-ltb}
use Rattle.osc_coap.specs.{NumberAndValue, spelling, plaintext_spelling, extension_length, options_length, payload_length, payload_of}
use Rattle.osc_coap.specs.Message.{Message}
use Rattle.osc_options.specs.{AreInOrder, has_oscore, inner_options, insert, outer_options, plaintext_of, protected}
use Rattle.osc_options.proofs.AddLaws.{LengthLaw, PlaintextLaw}
use Rattle.osc_options.proofs.MergeLaws.{insert_before, insert_behind, option_length_closer}
use Rattle.osc_options.proofs.SplitLaws.{class_cases, inner_left, inner_taken, outer_left, outer_taken}

-- ---- options in two lists

-- after a larger number they are no longer
options_length_closer : (low high : ℕ) (options : List NumberAndValue) → low ≤ high → options_length high options ≤ options_length low options
options_length_closer low high [] le = omega arith
options_length_closer low high (option ∷ options) le = omega (arith, option_length_closer low high option le)

-- the two lists that options are split in take no fewer bytes
options_length-split : (before : ℕ) (options : List NumberAndValue) → AreInOrder before options → has_oscore options ≡ false
    → options_length before options ≤ options_length before (outer_options options) + options_length before (inner_options options)
options_length-split before [] order none = omega arith
options_length-split before (option ∷ options) order none =
    elim (cases_Bool (option.0 == 9)) [
      | inl own ↦ let no = rw own at none in absurd cc
      | inr other ↦
          let rest = options_length-split option.0 options order.1 (rw other at none) in
          elim (class_cases option.0 other) [
            | inl is ↦
                omega (arith, rest, ap (options_length before) (outer_taken option options is.0), ap (options_length before) (inner_left option options is.1), options_length_closer before option.0 (inner_options options) order.0)
            | inr is ↦
                omega (arith, rest, ap (options_length before) (outer_left option options is.0), ap (options_length before) (inner_taken option options is.1), options_length_closer before option.0 (outer_options options) order.0)
          ]
    ]

-- ---- one option more

extension_length_most : (n : ℕ) → extension_length n ≤ 2
extension_length_most n =
    elim (cases_lt n 13) [
      | inl lt ↦ rw (lt-ltb n 13 lt) (omega arith)
      | inr le ↦ elim (cases_lt n 269) [
        | inl lt ↦ rw (le-ltb n 13 le, lt-ltb n 269 lt) (omega arith)
        | inr large ↦ rw (le-ltb n 13 le, le-ltb n 269 large) (omega arith)
      ]
    ]

-- an option put in takes a byte, and the step to the next one had two at most beside its nibble
options_length-insert : (before : ℕ) (option : NumberAndValue) (options : List NumberAndValue) → options_length before options ≤ 1 + options_length before (insert option options)
options_length-insert before option [] = omega arith
options_length-insert before option (first ∷ options) =
    elim (cases_lt option.0 first.0) [
      | inl lt ↦ omega (arith, ap (options_length before) (insert_before option first options lt), extension_length_most (first.0 - before))
      | inr le ↦ omega (arith, ap (options_length before) (insert_behind option first options le), options_length-insert first.0 option options)
    ]

-- ---- a message

payload_least : (bytes : List ℕ) → 0 < length bytes → payload_length (payload_of bytes) ≡ 1 + length bytes
payload_least [] some = absurd (omega arith)
payload_least (b ∷ bytes) some = omega arith

-- the code inside and the marker of the payload are two bytes more
pub protected_longer : LengthLaw → PlaintextLaw → (m : Message) (code : ℕ) (value payload : List ℕ) → AreInOrder 0 m.options → has_oscore m.options ≡ false
    → length (plaintext_spelling (plaintext_of m)) ≤ length payload → length (spelling m) < length (spelling (protected m code value payload))
protected_longer length_is plaintext_is m code value payload order none fits =
    let inside = plaintext_is (plaintext_of m) in
    omega (arith, length_is m, length_is (protected m code value payload), inside, options_length-split 0 m.options order none, options_length-insert 0 (9, value) (outer_options m.options), payload_least payload (omega (arith, inside, fits)), fits)
