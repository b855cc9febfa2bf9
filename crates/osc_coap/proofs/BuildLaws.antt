-- What a message's bytes become as it grows.
use Rattle.std.proofs.Common.{◌≡◌, ℕ, ◌+◌, ◌-◌, ◌*◌, ◌/◌, ◌%◌, ◌^◌, ◌<◌, ◌≤◌, List, [], ◌∷◌, ◌++◌, length, Option, None, Result, Ok, Err, refl, sym, ap, subst, ◌∙◌, append_assoc, arith}
use Rattle.std.specs.Prelude.{IfSome, IsOk, OnOk, OnErr}
use Rattle.std.proofs.lemmas.Bool.{lt-ltb}
use Rattle.std.proofs.lemmas.List.{append-nil, length-append}
use Rattle.osc_coap.specs.declared.kind.Kind.{Kind}
use Rattle.osc_coap.specs.{kind_bits, NumberAndValue, IsOptionBehind, nibble, extension, option_spelling, options_spelling, payload_spelling, spelling, header, AreOptions, HasSpelling, Spells, last_number, bare, with_option, payload_of, with_payload, IsKept, found, message_in}
use Rattle.osc_coap.specs.Message.{Message}
use Rattle.osc_coap.specs.declared.builder.MessageBuilder.TheInside.{Inside}
use Rattle.osc_coap.proofs.LengthLaws.{length-option_spelling}
use Rattle.osc_coap.proofs.MessageLaws.{message_again}

-- ---- an option

-- the pieces of an option, appended in turn
pub option_appended : (out : List ℕ) (before number : ℕ) (value : List ℕ) → (((out ++ (16 * nibble (number - before) + nibble (length value)) ∷ []) ++ extension (number - before)) ++ extension (length value)) ++ value ≡ out ++ option_spelling before (number, value)
unfolding option_spelling
option_appended out before number value =
    let b = 16 * nibble (number - before) + nibble (length value) in
    let d = extension (number - before) in
    let s = extension (length value) in
    append_assoc ((out ++ b ∷ []) ++ d) s value ∙ append_assoc (out ++ b ∷ []) d (s ++ value) ∙ append_assoc out (b ∷ []) (d ++ (s ++ value)) ∙ ap (λ (t : List ℕ). out ++ (b ∷ t)) (sym (append_assoc d s value))

-- an option whose delta and length have no extension
pub short_spelling : (before number : ℕ) (value : List ℕ) → number - before < 13 → length value < 13 → option_spelling before (number, value) ≡ (16 * (number - before) + length value) ∷ value
unfolding option_spelling nibble extension
short_spelling before number value delta size = rw (lt-ltb (number - before) 13 delta, lt-ltb (length value) 13 size) refl

-- the pieces of such an option, appended in turn
pub short_appended : (out : List ℕ) (before number : ℕ) (value : List ℕ) → number - before < 13 → length value < 13 → (out ++ (16 * (number - before) + length value) ∷ []) ++ value ≡ out ++ option_spelling before (number, value)
short_appended out before number value delta size = append_assoc out ((16 * (number - before) + length value) ∷ []) value ∙ ap (λ (t : List ℕ). out ++ t) (sym (short_spelling before number value delta size))

-- the spelling of one option more
pub options-push : (before : ℕ) (options : List NumberAndValue) (option : NumberAndValue) → options_spelling before (options ++ option ∷ []) ≡ options_spelling before options ++ option_spelling (last_number before options) option
unfolding options_spelling
options-push before [] option = append-nil (option_spelling before option)
options-push before (first ∷ options) option =
    ap (λ (t : List ℕ). option_spelling before first ++ t) (options-push first.0 options option) ∙ sym (append_assoc (option_spelling before first) (options_spelling first.0 options) (option_spelling (last_number first.0 options) option))

-- one option more are options
pub AreOptions-push : (before : ℕ) (options : List NumberAndValue) (option : NumberAndValue) → AreOptions before options → IsOptionBehind (last_number before options) option → AreOptions before (options ++ option ∷ [])
AreOptions-push before [] option fits last = (last, tt)
AreOptions-push before (first ∷ options) option fits last = (fits.0, AreOptions-push first.0 options option fits.1 last)

-- the last number is that of the option after the others
pub last_number-push : (before : ℕ) (options : List NumberAndValue) (option : NumberAndValue) → last_number before (options ++ option ∷ []) ≡ option.0
last_number-push before [] option = refl
last_number-push before (first ∷ options) option = last_number-push first.0 options option

-- an option is spelled after the others
pub spelling-with_option : (m : Message) (number : ℕ) (value : List ℕ) → m.payload ≡ None → spelling (with_option m number value) ≡ spelling m ++ option_spelling (last_number 0 m.options) (number, value)
unfolding spelling payload_spelling
spelling-with_option m number value none =
    let front = header m.kind m.code m.id (length m.token) ++ m.token in
    let option = option_spelling (last_number 0 m.options) (number, value) in
    let pushed : (front ++ options_spelling 0 (m.options ++ (number, value) ∷ [])) ++ [] ≡ ((front ++ options_spelling 0 m.options) ++ []) ++ option =
    append-nil _ ∙ ap (λ (t : List ℕ). front ++ t) (options-push 0 m.options (number, value)) ∙ sym (append_assoc front (options_spelling 0 m.options) option) ∙ ap (λ (t : List ℕ). t ++ option) (sym (append-nil (front ++ options_spelling 0 m.options))) in
    subst (λ (p : Option (List ℕ)). (front ++ options_spelling 0 (m.options ++ (number, value) ∷ [])) ++ payload_spelling p ≡ ((front ++ options_spelling 0 m.options) ++ payload_spelling p) ++ option) (sym none) pushed

-- a payload is spelled after the options
pub spelling-with_payload : (m : Message) (bytes : List ℕ) → m.payload ≡ None → spelling (with_payload m bytes) ≡ spelling m ++ payload_spelling (payload_of bytes)
unfolding spelling payload_spelling
spelling-with_payload m bytes none =
    let front = header m.kind m.code m.id (length m.token) ++ m.token ++ options_spelling 0 m.options in
    subst (λ (p : Option (List ℕ)). front ++ payload_spelling (payload_of bytes) ≡ (front ++ payload_spelling p) ++ payload_spelling (payload_of bytes)) (sym none) (ap (λ (t : List ℕ). t ++ payload_spelling (payload_of bytes)) (sym (append-nil front)))

-- ---- what a builder keeps

-- a message with one option more has a spelling
pub lawful_with_option : (m : Message) (number : ℕ) (value : List ℕ) → HasSpelling m → 0 < m.code → IsOptionBehind (last_number 0 m.options) (number, value) → HasSpelling (with_option m number value)
lawful_with_option m number value lawful code last = record {
  id = lawful.id;
  token = lawful.token;
  options = AreOptions-push 0 m.options (number, value) lawful.options last;
  payload = lawful.payload;
  empty = λ zero_code. absurd (omega arith);
}

-- a payload is not empty
pub nonempty : (bytes : List ℕ) → IfSome (payload_of bytes) (λ bytes. 0 < length bytes)
nonempty [] = tt
nonempty (b ∷ bytes) = omega arith

-- a message with a payload has a spelling
pub lawful_with_payload : (m : Message) (bytes : List ℕ) → HasSpelling m → 0 < m.code → HasSpelling (with_payload m bytes)
lawful_with_payload m bytes lawful code = record {
  id = lawful.id;
  token = lawful.token;
  options = lawful.options;
  payload = nonempty bytes;
  empty = λ zero_code. absurd (omega arith);
}

-- a message without options and payload has a spelling
pub lawful_bare : (kind : Kind) (code id : ℕ) (token : List ℕ) → id < 2 ^ 16 → length token ≤ 8 → (code ≡ 0 → token ≡ []) → HasSpelling (bare kind code id token)
lawful_bare kind code id token id_fits size empty = record {
  id = id_fits;
  token = size;
  options = tt;
  payload = tt;
  empty = λ zero_code. record { token = empty zero_code; options = refl; payload = refl };
}

-- it is spelled by its header and its token
pub spelling-bare : (kind : Kind) (code id : ℕ) (token : List ℕ) → spelling (bare kind code id token) ≡ header kind code id (length token) ++ token
unfolding spelling options_spelling payload_spelling
spelling-bare kind code id token = append-nil _ ∙ append-nil _

-- the four bytes of a header
pub header_built : (kind : Kind) (code id : ℕ) (n : ℕ) → id < 2 ^ 16 → ((([] ++ (64 + 16 * kind_bits kind + n) ∷ []) ++ code ∷ []) ++ (id / 256) ∷ []) ++ (id % 256) ∷ [] ≡ header kind code id n
header_built kind code id n fits =
    let high : id / 256 ≡ id / 256 % 256 = omega arith in
    ap (λ (b : ℕ). (64 + 16 * kind_bits kind + n) ∷ code ∷ b ∷ id % 256 ∷ []) high

-- the message of bytes that spell it
pub message_in-spelling : (bytes : List ℕ) (m : Message) → Spells bytes m → message_in bytes ≡ m
message_in-spelling bytes m spells = ap message_in spells.whole ∙ ap found (message_again m spells.lawful)

-- a builder keeps what bytes that spell a message give
pub kept : (b : Inside) (m : Message) → Spells b.written.bytes.items m → b.written.last ≡ last_number 0 m.options → IsKept b
kept b m spells last =
    let is : m ≡ message_in b.written.bytes.items = sym (message_in-spelling b.written.bytes.items m spells) in
    record {
      spelled = subst (λ (x : Message). Spells b.written.bytes.items x) is spells;
      last = last ∙ ap (λ (x : Message). last_number 0 x.options) is;
    }

-- what is known of an open builder, by the message that it shows
pub record IsOpen (bytes : List ℕ) (last : ℕ) (m : Message) : Type 0 where
  pub spells : Spells bytes m
  pub last_is : last ≡ last_number 0 m.options
  pub none : m.payload ≡ None

-- what a builder keeps, of the message that it shows
pub opened : (b : Inside) (m : Message) → IsKept b → message_in b.written.bytes.items ≡ m → m.payload ≡ None → IsOpen b.written.bytes.items b.written.last m
opened b m is e none = record {
  spells = subst (λ (x : Message). Spells b.written.bytes.items x) e is.spelled;
  last_is = is.last ∙ ap (λ (x : Message). last_number 0 x.options) e;
  none = none;
}

-- the spelling with an option more, from the bytes so far
pub option_whole : (bytes : List ℕ) (last : ℕ) (m : Message) (number : ℕ) (value : List ℕ) → IsOpen bytes last m → spelling (with_option m number value) ≡ bytes ++ option_spelling last (number, value)
option_whole bytes last m number value is =
    spelling-with_option m number value is.none ∙ ap (λ (t : List ℕ). t ++ option_spelling (last_number 0 m.options) (number, value)) (sym is.spells.whole) ∙ ap (λ (k : ℕ). bytes ++ option_spelling k (number, value)) (sym is.last_is)

-- the spelling with a payload, from the bytes so far
pub payload_whole : (bytes : List ℕ) (last : ℕ) (m : Message) (payload : List ℕ) → IsOpen bytes last m → spelling (with_payload m payload) ≡ bytes ++ payload_spelling (payload_of payload)
payload_whole bytes last m payload is =
    spelling-with_payload m payload is.none ∙ ap (λ (t : List ℕ). t ++ payload_spelling (payload_of payload)) (sym is.spells.whole)

-- the message with an option more, in the bytes that it was written to
pub option_spells : (bytes new : List ℕ) (last : ℕ) (m : Message) (number : ℕ) (value : List ℕ) → IsOpen bytes last m → 0 < m.code → last_number 0 m.options ≤ number → number < 2 ^ 16
    → new ≡ bytes ++ option_spelling last (number, value) → length new ≤ 1152 → Spells new (with_option m number value)
option_spells bytes new last m number value is code rises number_fits e fits = record {
  lawful = lawful_with_option m number value is.spells.lawful code (record { rises = rises; number = number_fits; size = omega (arith, ap length e, length-append bytes (option_spelling last (number, value)), length-option_spelling last (number, value)) });
  whole = e ∙ sym (option_whole bytes last m number value is);
}

-- the message with a payload, in the bytes that it was written to
pub payload_spells : (bytes new : List ℕ) (last : ℕ) (m : Message) (payload : List ℕ) → IsOpen bytes last m → 0 < m.code → new ≡ bytes ++ payload_spelling (payload_of payload) → Spells new (with_payload m payload)
payload_spells bytes new last m payload is code e = record {
  lawful = lawful_with_payload m payload is.spells.lawful code;
  whole = e ∙ sym (payload_whole bytes last m payload is);
}

-- what holds on either outcome
pub either : {T E P Q R : Type 0} (r : Result T E) → OnOk r P → OnErr r Q → (IsOk r → P → R) → (Q → R) → R
either (Ok x) p q f g = f refl p
either (Err e) p q f g = g q

-- what follows on success
pub on_ok : {T E P Q : Type 0} (r : Result T E) → (IsOk r → P → Q) → OnOk r P → OnOk r Q
on_ok (Ok x) f p = f refl p
on_ok (Err e) f p = p
