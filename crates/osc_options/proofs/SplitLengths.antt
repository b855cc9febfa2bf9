-- How long the outcome of splitting and merging is.
use Rattle.std.proofs.Common.{ℕ, ◌≤◌, ◌+◌, Bool, not, ◌==◌, List, [], ◌∷◌, length, arith, inl, inr}
use Rattle.std.specs.Prelude.{filter}
use Rattle.std.proofs.lemmas.Bool.{cases_lt, lt-ltb, le-ltb}
use Rattle.osc_coap.specs.{NumberAndValue, IsOptionBehind, AreOptions, HasSpelling, spelling, HasPlaintextSpelling, plaintext_spelling, options_length, payload_length, payload_of}
use Rattle.osc_coap.specs.Message.{Message}
use Rattle.osc_coap.specs.Plaintext.{Plaintext}
use Rattle.osc_options.specs.declared.table.Class.TheVariants.{U}
use Rattle.osc_options.specs.{class_of, same_class, of_class, outer_options, inner_options, plaintext_of, protected, unprotected}
use Rattle.osc_options.proofs.AddLaws.{LengthLaw, PlaintextLaw}
use Rattle.osc_options.proofs.MergeLaws.{options_length-merge}
use Rattle.osc_options.proofs.SplitLaws.{FewerLaw, outer_are}

-- some of the options are no longer
abbrev pub ShorterLaw : Type 0
ShorterLaw = (keeps : NumberAndValue → Bool) (before : ℕ) (options : List NumberAndValue) → AreOptions before options → options_length before (filter keeps options) ≤ options_length before options

outer_shorter : FewerLaw → ShorterLaw → (options : List NumberAndValue) → AreOptions 0 options → options_length 0 (outer_options options) ≤ options_length 0 options
outer_shorter fewer shorter options are = omega (arith, shorter (λ option. not (option.0 == 9)) 0 (of_class U options) (fewer _ 0 options are), shorter (λ option. same_class U (class_of option.0)) 0 options are)

inner_shorter : ShorterLaw → (options : List NumberAndValue) → AreOptions 0 options → options_length 0 (inner_options options) ≤ options_length 0 options
inner_shorter shorter options are = shorter _ 0 options are

payload_most : (bytes : List ℕ) → payload_length (payload_of bytes) ≤ 1 + length bytes
payload_most [] = omega arith
payload_most (b ∷ bytes) = omega arith

-- OSCORE's own option has a delta of one nibble
own_length : (value : List ℕ) → length value ≤ 255 → options_length 0 ((9, value) ∷ []) ≤ 5 + length value
own_length value fits =
    elim (cases_lt (length value) 13) [
      | inl small ↦ rw (lt-ltb (length value) 13 small) (omega arith)
      | inr wide ↦ rw (le-ltb (length value) 13 wide, lt-ltb (length value) 269 (omega arith)) (omega arith)
    ]

pub plaintext_most : LengthLaw → PlaintextLaw → ShorterLaw → (m : Message) → HasSpelling m → length (plaintext_spelling (plaintext_of m)) ≤ length (spelling m)
plaintext_most length_is plaintext_is shorter m lawful =
    omega (arith, length_is m, plaintext_is (plaintext_of m), inner_shorter shorter m.options lawful.options)

pub protected_most : LengthLaw → FewerLaw → ShorterLaw → (m : Message) (code : ℕ) (value payload : List ℕ) → HasSpelling m → length value ≤ 255
    → length (spelling (protected m code value payload)) ≤ length (spelling m) + 6 + length value + length payload
protected_most length_is fewer shorter m code value payload lawful fits =
    let own : IsOptionBehind 0 (9, value) = record { rises = omega arith; number = omega arith; size = omega arith } in
    omega (arith, length_is m, length_is (protected m code value payload), options_length-merge 0 (outer_options m.options) ((9, value) ∷ []) (outer_are fewer 0 m.options lawful.options) (own, tt), outer_shorter fewer shorter m.options lawful.options, own_length value fits, payload_most payload)

pub unprotected_most : LengthLaw → PlaintextLaw → FewerLaw → ShorterLaw → (outer : Message) (inner : Plaintext) → HasSpelling outer → HasPlaintextSpelling inner
    → length (spelling (unprotected outer inner)) ≤ length (spelling outer) + length (plaintext_spelling inner)
unprotected_most length_is plaintext_is fewer shorter outer inner p q =
    omega (arith, length_is outer, length_is (unprotected outer inner), plaintext_is inner, options_length-merge 0 (outer_options outer.options) (inner_options inner.options) (outer_are fewer 0 outer.options p.options) (fewer _ 0 inner.options q.options), outer_shorter fewer shorter outer.options p.options, inner_shorter shorter inner.options q.options)
