-- A plaintext that is read is spelled so, what is spelled so is read, and what its bytes become as it grows.
use Rattle.std.proofs.Common.{◌≡◌, ℕ, ◌+◌, ◌^◌, ◌<◌, ◌≤◌, List, [], ◌∷◌, ◌++◌, length, Option, Some, None, refl, sym, ap, subst, ◌∙◌, arith}
use Rattle.std.specs.Prelude.{IfSome}
use Rattle.std.specs.Option.{option_map}
use Rattle.std.proofs.lemmas.List.{append-nil, length-append}
use Rattle.std.proofs.lemmas.Option.{same_Some}
use Rattle.osc_coap.specs.{IsOptionBehind, option_spelling, options_spelling, payload_spelling, plaintext_spelling, HasPlaintextSpelling, SpellsPlaintext, plaintext_length, last_number, bare_plaintext, payload_of, with_inner_option, with_inner_payload, AreBytes, Body, body_at, options_in, payload_in, plaintext_with, plaintext_at, plaintext_in}
use Rattle.osc_coap.specs.Plaintext.{Plaintext}
use Rattle.osc_coap.specs.PlaintextBuilder.{IsKept, found}
use Rattle.osc_coap.specs.declared.plaintext.PlaintextBuilder.TheInside.{Inside}
use Rattle.osc_coap.proofs.Steps.{AreBytes-rest}
use Rattle.osc_coap.proofs.BodyLaws.{body_spelling, body_again, body_takes}
use Rattle.osc_coap.proofs.LengthLaws.{length-option_spelling, length-options_spelling, length-payload_spelling}
use Rattle.osc_coap.proofs.MessageLaws.{parts_read}
use Rattle.osc_coap.proofs.BuildLaws.{options-push, AreOptions-push, nonempty}

-- ---- reading

-- a plaintext that has a spelling is read again
pub plaintext_again : (p : Plaintext) → HasPlaintextSpelling p → plaintext_at (plaintext_spelling p) ≡ Some p
unfolding plaintext_spelling plaintext_at
plaintext_again p lawful = ap (option_map (plaintext_with p.code)) (body_again 0 (p.options, p.payload) (record { options = lawful.options; payload = lawful.payload }))

-- a plaintext that was read has options and a payload that were read
body_found : (code : ℕ) (body : Option Body) (p : Plaintext) → option_map (plaintext_with code) body ≡ Some p → (b : Body) × (body ≡ Some b) × (plaintext_with code b ≡ p)
body_found code None p e = absurd cc
body_found code (Some b) p e = (b, refl, same_Some (plaintext_with code b) p e)

-- a plaintext that is read is spelled so
pub plaintext_takes : (bytes : List ℕ) (p : Plaintext) → AreBytes bytes → plaintext_at bytes ≡ Some p → SpellsPlaintext bytes p
unfolding plaintext_spelling plaintext_at
plaintext_takes [] p fits e = absurd cc
plaintext_takes (code ∷ rest) p fits e =
    let read = body_found code (body_at 0 rest) p e in
    let taken = body_takes 0 rest read.0 (AreBytes-rest code rest fits) read.1 in
    subst (λ (x : Plaintext). SpellsPlaintext (code ∷ rest) x) read.2 (record {
      lawful = record { options = taken.fits.options; payload = taken.fits.payload };
      whole = ap (λ (t : List ℕ). code ∷ t) taken.whole;
    })

-- what the reader found is spelled so
pub is_found : (bytes : List ℕ) (r : Option Plaintext) → AreBytes bytes → r ≡ plaintext_at bytes → IfSome r (λ p. SpellsPlaintext bytes p)
is_found bytes (Some p) fits e = plaintext_takes bytes p fits (sym e)
is_found bytes None fits e = tt

-- bytes that spell two plaintexts: they are one
pub same_plaintext : (bytes : List ℕ) (p q : Plaintext) → SpellsPlaintext bytes p → SpellsPlaintext bytes q → p ≡ q
same_plaintext bytes p q a b =
    let first : plaintext_at bytes ≡ Some p = ap plaintext_at a.whole ∙ plaintext_again p a.lawful in
    let second : plaintext_at bytes ≡ Some q = ap plaintext_at b.whole ∙ plaintext_again q b.lawful in
    let both = sym first ∙ second in
    cc

-- the length of a plaintext
pub length-plaintext_spelling : (p : Plaintext) → length (plaintext_spelling p) ≡ plaintext_length p
unfolding plaintext_spelling
length-plaintext_spelling p =
    omega (arith, length-append (options_spelling 0 p.options) (payload_spelling p.payload), length-options_spelling 0 p.options, length-payload_spelling p.payload)

-- ---- growing

-- an option is spelled after the others
spelling-with_inner_option : (p : Plaintext) (number : ℕ) (value : List ℕ) → p.payload ≡ None → plaintext_spelling (with_inner_option p number value) ≡ plaintext_spelling p ++ option_spelling (last_number 0 p.options) (number, value)
unfolding plaintext_spelling payload_spelling
spelling-with_inner_option p number value none =
    let options = options_spelling 0 p.options in
    let option = option_spelling (last_number 0 p.options) (number, value) in
    let pushed : (p.code ∷ options_spelling 0 (p.options ++ (number, value) ∷ []) ++ []) ≡ (p.code ∷ options ++ []) ++ option =
    ap (λ (t : List ℕ). p.code ∷ t) (append-nil _ ∙ options-push 0 p.options (number, value) ∙ ap (λ (t : List ℕ). t ++ option) (sym (append-nil options))) in
    subst (λ (b : Option (List ℕ)). (p.code ∷ options_spelling 0 (p.options ++ (number, value) ∷ []) ++ payload_spelling b) ≡ (p.code ∷ options ++ payload_spelling b) ++ option) (sym none) pushed

-- a payload is spelled after the options
spelling-with_inner_payload : (p : Plaintext) (bytes : List ℕ) → p.payload ≡ None → plaintext_spelling (with_inner_payload p bytes) ≡ plaintext_spelling p ++ payload_spelling (payload_of bytes)
unfolding plaintext_spelling payload_spelling
spelling-with_inner_payload p bytes none =
    let front = p.code ∷ options_spelling 0 p.options in
    subst (λ (b : Option (List ℕ)). front ++ payload_spelling (payload_of bytes) ≡ (front ++ payload_spelling b) ++ payload_spelling (payload_of bytes)) (sym none) (ap (λ (t : List ℕ). t ++ payload_spelling (payload_of bytes)) (sym (append-nil front)))

-- the plaintext of bytes that spell it
pub plaintext_in-spelling : (bytes : List ℕ) (p : Plaintext) → SpellsPlaintext bytes p → plaintext_in bytes ≡ p
plaintext_in-spelling bytes p spells = ap plaintext_in spells.whole ∙ ap found (plaintext_again p spells.lawful)

-- a builder keeps what bytes that spell a plaintext give
pub kept : (b : Inside) (p : Plaintext) → SpellsPlaintext b.written.bytes.items p → b.written.last ≡ last_number 0 p.options → IsKept b
kept b p spells last =
    let is : p ≡ plaintext_in b.written.bytes.items = sym (plaintext_in-spelling b.written.bytes.items p spells) in
    record {
      spelled = subst (λ (x : Plaintext). SpellsPlaintext b.written.bytes.items x) is spells;
      last = last ∙ ap (λ (x : Plaintext). last_number 0 x.options) is;
    }

-- a code alone is spelled by one byte
pub bare_spells : (bytes : List ℕ) (code : ℕ) → bytes ≡ code ∷ [] → SpellsPlaintext bytes (bare_plaintext code)
unfolding plaintext_spelling options_spelling payload_spelling
bare_spells bytes code e = record { lawful = record { options = tt; payload = tt }; whole = e }

-- what is known of an open builder, by the plaintext that it shows
pub record IsOpen (bytes : List ℕ) (last : ℕ) (p : Plaintext) : Type 0 where
  pub spells : SpellsPlaintext bytes p
  pub last_is : last ≡ last_number 0 p.options
  pub none : p.payload ≡ None

-- what a builder keeps, of the plaintext that it shows
pub opened : (b : Inside) (p : Plaintext) → IsKept b → plaintext_in b.written.bytes.items ≡ p → p.payload ≡ None → IsOpen b.written.bytes.items b.written.last p
opened b p is e none = record {
  spells = subst (λ (x : Plaintext). SpellsPlaintext b.written.bytes.items x) e is.spelled;
  last_is = is.last ∙ ap (λ (x : Plaintext). last_number 0 x.options) e;
  none = none;
}

-- the spelling with an option more, from the bytes so far
pub option_whole : (bytes : List ℕ) (last : ℕ) (p : Plaintext) (number : ℕ) (value : List ℕ) → IsOpen bytes last p → plaintext_spelling (with_inner_option p number value) ≡ bytes ++ option_spelling last (number, value)
option_whole bytes last p number value is =
    spelling-with_inner_option p number value is.none ∙ ap (λ (t : List ℕ). t ++ option_spelling (last_number 0 p.options) (number, value)) (sym is.spells.whole) ∙ ap (λ (k : ℕ). bytes ++ option_spelling k (number, value)) (sym is.last_is)

-- the spelling with a payload, from the bytes so far
pub payload_whole : (bytes : List ℕ) (last : ℕ) (p : Plaintext) (payload : List ℕ) → IsOpen bytes last p → plaintext_spelling (with_inner_payload p payload) ≡ bytes ++ payload_spelling (payload_of payload)
payload_whole bytes last p payload is =
    spelling-with_inner_payload p payload is.none ∙ ap (λ (t : List ℕ). t ++ payload_spelling (payload_of payload)) (sym is.spells.whole)

-- the plaintext with an option more, in the bytes that it was written to
pub option_spells : (bytes new : List ℕ) (last : ℕ) (p : Plaintext) (number : ℕ) (value : List ℕ) → IsOpen bytes last p → last_number 0 p.options ≤ number → number < 2 ^ 16
    → new ≡ bytes ++ option_spelling last (number, value) → length new ≤ 1152 → SpellsPlaintext new (with_inner_option p number value)
option_spells bytes new last p number value is rises number_fits e fits =
    let behind : IsOptionBehind (last_number 0 p.options) (number, value) = record { rises = rises; number = number_fits; size = omega (arith, ap length e, length-append bytes (option_spelling last (number, value)), length-option_spelling last (number, value)) } in
    record {
      lawful = record { options = AreOptions-push 0 p.options (number, value) is.spells.lawful.options behind; payload = is.spells.lawful.payload };
      whole = e ∙ sym (option_whole bytes last p number value is);
    }

-- the plaintext with a payload, in the bytes that it was written to
pub payload_spells : (bytes new : List ℕ) (last : ℕ) (p : Plaintext) (payload : List ℕ) → IsOpen bytes last p → new ≡ bytes ++ payload_spelling (payload_of payload) → SpellsPlaintext new (with_inner_payload p payload)
payload_spells bytes new last p payload is e = record {
  lawful = record { options = is.spells.lawful.options; payload = nonempty payload };
  whole = e ∙ sym (payload_whole bytes last p payload is);
}

-- ---- for the code

-- a payload that was read after a code is that of a plaintext
pub kept_lawful : (bytes body : List ℕ) (code : ℕ) (payload : Option (List ℕ)) → AreBytes bytes → bytes ≡ code ∷ body → Some payload ≡ payload_in 0 body → HasPlaintextSpelling (plaintext_with code (options_in 0 body, payload))
kept_lawful bytes body code payload fits parts e =
    let taken = body_takes 0 body (options_in 0 body, payload) (AreBytes-rest code body (subst AreBytes parts fits)) (parts_read body payload e) in
    record { options = taken.fits.options; payload = taken.fits.payload }

-- what follows the code is spelled so
pub kept_spelled : (bytes body : List ℕ) (code : ℕ) (payload : Option (List ℕ)) → AreBytes bytes → bytes ≡ code ∷ body → Some payload ≡ payload_in 0 body → body ≡ body_spelling 0 (options_in 0 body, payload)
kept_spelled bytes body code payload fits parts e =
    (body_takes 0 body (options_in 0 body, payload) (AreBytes-rest code body (subst AreBytes parts fits)) (parts_read body payload e)).whole

-- the length of a code and what follows it
pub length-of_parts : (p : Plaintext) (body : List ℕ) → body ≡ options_spelling 0 p.options ++ payload_spelling p.payload → 1 + length body ≡ length (plaintext_spelling p)
unfolding plaintext_spelling
length-of_parts p body e = omega (arith, ap length e)
