-- How long spellings are.
use Rattle.std.proofs.Common.{◌≡◌, ℕ, ◌+◌, ◌-◌, ◌<◌, ◌≤◌, List, [], ◌∷◌, ◌++◌, length, Option, Some, None, refl, ap, arith, inl, inr}
use Rattle.std.specs.Prelude.{sum_by}
use Rattle.std.proofs.lemmas.Bool.{cases_lt, le-ltb, lt-ltb}
use Rattle.std.proofs.lemmas.List.{length-append}
use Rattle.std.proofs.lemmas.List.Sums.{sum_by-cons}
use Rattle.osc_coap.specs.declared.kind.Kind.{Kind}
use Rattle.osc_coap.specs.{NumberAndValue, header, extension, option_spelling, options_spelling, payload_spelling, spelling, extension_length, option_length, options_length, payload_length, spelled_length, last_number, bare, with_option, payload_of, with_payload}
use Rattle.osc_coap.specs.Message.{Message}
use Rattle.osc_coap.proofs.OptionLaws.{nibble_small, nibble_middle, nibble_large}

-- ---- an extension

-- the three lengths of an extension
length_small : (n : ℕ) → n < 13 → extension_length n ≡ 0
length_small n lt = rw (lt-ltb n 13 lt) refl

-- an extension of one byte
length_middle : (n : ℕ) → 13 ≤ n → n < 269 → extension_length n ≡ 1
length_middle n le lt = rw (le-ltb n 13 le, lt-ltb n 269 lt) refl

-- an extension of two bytes
length_large : (n : ℕ) → 269 ≤ n → extension_length n ≡ 2
length_large n large =
    let le : 13 ≤ n = omega arith in
    rw (le-ltb n 13 le, le-ltb n 269 large) refl

-- the length of an extension
pub length-extension : (n : ℕ) → length (extension n) ≡ extension_length n
length-extension n =
    elim (cases_lt n 13) [
      | inl lt ↦ omega (arith, ap length ((nibble_small n lt).1), length_small n lt)
      | inr le ↦ elim (cases_lt n 269) [
        | inl lt ↦ omega (arith, ap length ((nibble_middle n le lt).1), length_middle n le lt)
        | inr large ↦ omega (arith, ap length ((nibble_large n large).1), length_large n large)
      ]
    ]

-- an extension has at most two bytes
pub extension_length_most : (n : ℕ) → extension_length n ≤ 2
extension_length_most n =
    elim (cases_lt n 13) [
      | inl lt ↦ omega (arith, length_small n lt)
      | inr le ↦ elim (cases_lt n 269) [
        | inl lt ↦ omega (arith, length_middle n le lt)
        | inr large ↦ omega (arith, length_large n large)
      ]
    ]

-- a delta in two steps takes no fewer bytes, counted with the nibbles of the second step
pub extension_length-add : (a b : ℕ) → extension_length (a + b) ≤ 1 + extension_length a + extension_length b
extension_length-add a b =
    elim (cases_lt (a + b) 13) [
      | inl lt ↦ omega (arith, length_small (a + b) lt)
      | inr le ↦ elim (cases_lt (a + b) 269) [
        | inl lt ↦ omega (arith, length_middle (a + b) le lt)
        | inr large ↦ elim (cases_lt a 13) [
          | inl small ↦ elim (cases_lt b 269) [
            | inl lt ↦ omega (arith, length_large (a + b) large, length_middle b (omega arith) lt)
            | inr many ↦ omega (arith, length_large (a + b) large, length_large b many)
          ]
          | inr not_small ↦ elim (cases_lt a 269) [
            | inl lt ↦ omega (arith, length_large (a + b) large, length_middle a not_small lt)
            | inr many ↦ omega (arith, length_large (a + b) large, length_large a many)
          ]
        ]
      ]
    ]

-- ---- the parts of a message

-- the length of an option
pub length-option_spelling : (before : ℕ) (option : NumberAndValue) → length (option_spelling before option) ≡ option_length before option
unfolding option_spelling
length-option_spelling before option =
    let delta = extension (option.0 - before) in
    let size = extension (length option.1) in
    omega (arith, length-append (delta ++ size) option.1, length-append delta size, length-extension (option.0 - before), length-extension (length option.1))

-- an option has at most five bytes beside its value
pub option_length_most : (before : ℕ) (option : NumberAndValue) → option_length before option ≤ 5 + length option.1
option_length_most before option = omega (arith, extension_length_most (option.0 - before), extension_length_most (length option.1))

-- the length of options
pub length-options_spelling : (before : ℕ) (options : List NumberAndValue) → length (options_spelling before options) ≡ options_length before options
unfolding options_spelling
length-options_spelling before [] = refl
length-options_spelling before (option ∷ options) =
    omega (arith, length-append (option_spelling before option) (options_spelling option.0 options), length-option_spelling before option, length-options_spelling option.0 options)

-- the same of all options
options_length_most : (before : ℕ) (options : List NumberAndValue) → options_length before options ≤ sum_by (λ option. 5 + length option.1) options
options_length_most before [] = omega arith
options_length_most before (option ∷ options) =
    omega (arith, sum_by-cons (λ (option : NumberAndValue). 5 + length option.1) option options, option_length_most before option, options_length_most option.0 options)

-- the length of a marker and a payload
pub length-payload_spelling : (payload : Option (List ℕ)) → length (payload_spelling payload) ≡ payload_length payload
unfolding payload_spelling
length-payload_spelling None = refl
length-payload_spelling (Some bytes) = omega arith

-- a payload has at most one byte beside its own
pub payload_length_most : (bytes : List ℕ) → payload_length (payload_of bytes) ≤ 1 + length bytes
payload_length_most [] = omega arith
payload_length_most (b ∷ bytes) = omega arith

-- ---- a message

-- the length of a message
pub length-spelling : (m : Message) → length (spelling m) ≡ spelled_length m
unfolding spelling
length-spelling m =
    let start = header m.kind m.code m.id (length m.token) in
    let options = options_spelling 0 m.options in
    omega (arith, length-append (start ++ m.token ++ options) (payload_spelling m.payload), length-append (start ++ m.token) options, length-append start m.token, length-options_spelling 0 m.options, length-payload_spelling m.payload)

-- the length of a header, a token and what follows
pub length-of_parts : (m : Message) (body : List ℕ) → body ≡ options_spelling 0 m.options ++ payload_spelling m.payload → 4 + length m.token + length body ≡ length (spelling m)
length-of_parts m body e =
    omega (arith, length-spelling m, ap length e, length-append (options_spelling 0 m.options) (payload_spelling m.payload), length-options_spelling 0 m.options, length-payload_spelling m.payload)

-- at most, by the lengths of its parts alone
pub length-spelling_most : (m : Message) → length (spelling m) ≤ 4 + length m.token + sum_by (λ option. 5 + length option.1) m.options + payload_length m.payload
length-spelling_most m = omega (arith, length-spelling m, options_length_most 0 m.options)

-- ---- a message that grows

-- options in two parts
pub options_length-append : (before : ℕ) (front back : List NumberAndValue) → options_length before (front ++ back) ≡ options_length before front + options_length (last_number before front) back
options_length-append before [] back = omega arith
options_length-append before (option ∷ front) back = omega (arith, options_length-append option.0 front back)

-- a header and a token
pub length-bare : (kind : Kind) (code id : ℕ) (token : List ℕ) → length (spelling (bare kind code id token)) ≡ 4 + length token
length-bare kind code id token = omega (arith, length-spelling (bare kind code id token))

-- one option more
pub length-with_option : (m : Message) (number : ℕ) (value : List ℕ) → length (spelling (with_option m number value)) ≡ length (spelling m) + option_length (last_number 0 m.options) (number, value)
length-with_option m number value =
    omega (arith, length-spelling (with_option m number value), length-spelling m, options_length-append 0 m.options ((number, value) ∷ []))

-- a payload
pub length-with_payload : (m : Message) (bytes : List ℕ) → m.payload ≡ None → length (spelling (with_payload m bytes)) ≡ length (spelling m) + payload_length (payload_of bytes)
length-with_payload m bytes none = omega (arith, length-spelling (with_payload m bytes), length-spelling m, ap payload_length none)
