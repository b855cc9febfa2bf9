-- A message that is read is spelled so, and what is spelled so is read.
use Rattle.std.proofs.Common.{◌≡◌, ℕ, ◌+◌, ◌-◌, ◌*◌, ◌/◌, ◌%◌, ◌^◌, ◌<◌, ◌≤◌, Bool, true, false, ◌&&◌, cond, ltb, eqb, List, [], ◌∷◌, ◌++◌, length, take, drop, Option, Some, None, Result, Ok, Err, refl, sym, ap, subst, ◌∙◌, append_assoc, arith, inl, inr}
use Rattle.std.specs.Prelude.{IfOk, unwrap_or}
use Rattle.std.specs.Option.{option_map}
use Rattle.std.specs.Int.{w16, to_be_bytes}
use Rattle.std.proofs.lemmas.Bool.{cases_Bool, cases_eq, and_left, and_right, and_cases, eqb-true, eqb-false, ne_eqb, ltb-false, le-ltb}
use Rattle.std.proofs.lemmas.List.{take_at, drop_at, take-append-drop, length-append, length-take, length-drop, nil_from_length, take_rest}
use Rattle.std.proofs.lemmas.Option.{same_Some}
use Rattle.osc_coap.specs.declared.kind.Kind.{Kind}
use Rattle.osc_coap.specs.declared.error.ParseError.{ParseError}
use Rattle.osc_coap.specs.declared.error.ParseError.TheVariants.{Version, Format}
use Rattle.osc_coap.specs.{kind_bits, header, options_spelling, payload_spelling, spelling, IsBare, HasSpelling, Spells, HasOtherVersion, AreBytes, Body, body_at, kind_of, options_in, payload_in, with_body, fields_at, message_at}
use Rattle.osc_coap.specs.Message.{Message}
use Rattle.osc_coap.proofs.Steps.{AreBytes-rest, AreBytes-drop}
use Rattle.osc_coap.proofs.OptionLaws.{pair_bytes}
use Rattle.osc_coap.proofs.HeaderLaws.{kind_again, kind_below, kind_takes}
use Rattle.osc_coap.proofs.BodyLaws.{body_spelling, body_nil, body_again, body_takes}

-- the message of a header, and of a token, options and payload
abbrev pub message_of : ℕ → ℕ → ℕ → List ℕ → Body → Message
message_of first code id token body = record { kind = kind_of (first / 16 % 4); code = code; id = id; token = token; options = body.0; payload = body.1 }

-- what a header and the bytes after it meet
pub record AreFields (first code : ℕ) (rest : List ℕ) : Type 0 where
  pub short : first % 16 ≤ 8
  pub within : first % 16 ≤ length rest
  pub empty : code ≡ 0 → length rest ≡ 0

-- no bytes are no options and no payload
nothing_read : (size : ℕ) (rest : List ℕ) (body : Body) → length rest ≡ 0 → body_at 0 (drop size rest) ≡ Some body → ([], None) ≡ body
nothing_read size rest body len e =
    let nothing : drop size rest ≡ [] = nil_from_length (drop size rest) (omega (arith, length-drop size rest)) in
    same_Some ([], None) body (sym (body_nil 0) ∙ ap (body_at 0) (sym nothing) ∙ e)

-- the message of a header and the bytes after it has a spelling
pub fields_lawful : (first code id : ℕ) (rest : List ℕ) (body : Body) → AreBytes rest → id < 2 ^ 16 → AreFields first code rest → body_at 0 (drop (first % 16) rest) ≡ Some body → HasSpelling (message_of first code id (take (first % 16) rest) body)
fields_lawful first code id rest body bytes id_fits fields e =
    let size = first % 16 in
    let read = body_takes 0 (drop size rest) body (AreBytes-drop size rest bytes) e in
    record {
      id = id_fits;
      token = omega (arith, length-take size rest, fields.short);
      options = read.fits.options;
      payload = read.fits.payload;
      empty = λ zero_code.
          let nothing = nothing_read size rest body (fields.empty zero_code) e in
          record {
            token = nil_from_length (take size rest) (omega (arith, length-take size rest, fields.empty zero_code));
            options = sym (ap (λ (b : Body). b.0) nothing);
            payload = sym (ap (λ (b : Body). b.1) nothing);
          };
    }

-- ---- the tests of the reader

-- code 0.00 with nothing after the header passes the reader's test
empty_test : (code : ℕ) (rest : List ℕ) → (code ≡ 0 → length rest ≡ 0) → (eqb code 0 && ltb 0 (length rest)) ≡ false
empty_test code rest h =
    elim (cases_eq code 0) [
      | inl is ↦ and_right _ _ (le-ltb 0 (length rest) (omega (arith, h is)))
      | inr is_not ↦ and_left _ _ (ne_eqb code 0 is_not)
    ]

-- what passes it has code 0.00 with nothing after the header, or another code
empty_from_test : (code : ℕ) (rest : List ℕ) → (eqb code 0 && ltb 0 (length rest)) ≡ false → code ≡ 0 → length rest ≡ 0
empty_from_test code rest test is =
    elim (and_cases _ _ test) [
      | inl other ↦ absurd (eqb-false code 0 other is)
      | inr none ↦ omega (arith, ltb-false 0 (length rest) none)
    ]

-- a test of the reader that let the rest go on
passes : {A : Type 0} (b : Bool) (r : Result A ParseError) (y : A) → cond b (Err Format) r ≡ Ok y → (b ≡ false) × (r ≡ Ok y)
passes true r y e = absurd cc
passes false r y e = (refl, e)

-- a message that was made has options and a payload that were read
body_passes : (first code id : ℕ) (token : List ℕ) (body : Option Body) (m : Message) → with_body first code id token body ≡ Ok m → (found : Body) × (body ≡ Some found) × (message_of first code id token found ≡ m)
body_passes first code id token None m e = absurd cc
body_passes first code id token (Some body) m e = (body, refl, cc)

-- what is known of a message that was read
fields_ok : (first code id : ℕ) (rest : List ℕ) (m : Message) → fields_at first code id rest ≡ Ok m
    → (body : Body) × AreFields first code rest × (body_at 0 (drop (first % 16) rest) ≡ Some body) × (message_of first code id (take (first % 16) rest) body ≡ m)
unfolding fields_at
fields_ok first code id rest m e =
    let size = first % 16 in
    let last = with_body first code id (take size rest) (body_at 0 (drop size rest)) in
    let a = passes (ltb 8 size) _ m e in
    let b = passes (ltb (length rest) size) _ m a.1 in
    let c = passes (eqb code 0 && ltb 0 (length rest)) last m b.1 in
    let d = body_passes first code id (take size rest) (body_at 0 (drop size rest)) m c.1 in
    (d.0, record { short = ltb-false 8 size a.0; within = ltb-false (length rest) size b.0; empty = empty_from_test code rest c.0 }, d.1, d.2)

-- what meets the tests is read
fields_pass : (first code id : ℕ) (rest : List ℕ) (body : Body) → AreFields first code rest → body_at 0 (drop (first % 16) rest) ≡ Some body → fields_at first code id rest ≡ Ok (message_of first code id (take (first % 16) rest) body)
unfolding fields_at
fields_pass first code id rest body fields e =
    rw (le-ltb 8 (first % 16) fields.short, le-ltb (length rest) (first % 16) fields.within, empty_test code rest fields.empty, e) refl

-- ---- the spelling

-- the spelling: its first bytes, its token, and what follows
spelling-parts : (m : Message) → spelling m ≡ (64 + 16 * kind_bits m.kind + length m.token) ∷ m.code ∷ (to_be_bytes w16 m.id ++ (m.token ++ body_spelling 0 (m.options, m.payload)))
unfolding spelling
spelling-parts m =
    let front = header m.kind m.code m.id (length m.token) in
    append_assoc (front ++ m.token) (options_spelling 0 m.options) (payload_spelling m.payload) ∙ append_assoc front m.token (body_spelling 0 (m.options, m.payload))

-- a header of version 1 is read
at_header : (first code high low id : ℕ) (rest : List ℕ) → first / 64 ≡ 1 → 256 * high + low ≡ id → message_at (first ∷ code ∷ high ∷ low ∷ rest) ≡ fields_at first code id rest
unfolding message_at
at_header first code high low id rest version is = rw (version, is) refl

-- a message that was read has version 1
header_ok : (first code high low : ℕ) (rest : List ℕ) (m : Message) → message_at (first ∷ code ∷ high ∷ low ∷ rest) ≡ Ok m → (first / 64 ≡ 1) × (fields_at first code (256 * high + low) rest ≡ Ok m)
unfolding message_at
header_ok first code high low rest m e =
    elim (cases_Bool (eqb (first / 64) 1)) [
      | inl is ↦ (eqb-true (first / 64) 1 is, rw is at e)
      | inr is ↦ let refused = rw is at e in absurd cc
    ]

-- an error is no message
no_header : (m : Message) → Err Format ≡ Ok m → ⊥
no_header m e = cc

-- a message has a header
long_enough : (bytes : List ℕ) (m : Message) → message_at bytes ≡ Ok m → 4 ≤ length bytes
unfolding message_at
long_enough [] m e = absurd (no_header m e)
long_enough (a ∷ []) m e = absurd (no_header m e)
long_enough (a ∷ b ∷ []) m e = absurd (no_header m e)
long_enough (a ∷ b ∷ c ∷ []) m e = absurd (no_header m e)
long_enough (a ∷ b ∷ c ∷ d ∷ rest) m e = omega arith

-- a message that is read is spelled so
pub message_takes : (bytes : List ℕ) (m : Message) → AreBytes bytes → message_at bytes ≡ Ok m → Spells bytes m
message_takes [] m fits e = absurd (omega (arith, long_enough [] m e))
message_takes (first ∷ []) m fits e = absurd (omega (arith, long_enough (first ∷ []) m e))
message_takes (first ∷ code ∷ []) m fits e = absurd (omega (arith, long_enough (first ∷ code ∷ []) m e))
message_takes (first ∷ code ∷ high ∷ []) m fits e = absurd (omega (arith, long_enough (first ∷ code ∷ high ∷ []) m e))
message_takes (first ∷ code ∷ high ∷ low ∷ rest) m fits e =
    let size = first % 16 in
    let start = header_ok first code high low rest m e in
    let id = 256 * high + low in
    let read = fields_ok first code id rest m start.1 in
    let body = read.0 in
    let bytes = AreBytes-rest low rest (AreBytes-rest high (low ∷ rest) (AreBytes-rest code (high ∷ low ∷ rest) (AreBytes-rest first (code ∷ high ∷ low ∷ rest) fits))) in
    let first_fits : first < 256 = fits 0 in
    let high_fits : high < 256 = fits 2 in
    let low_fits : low < 256 = fits 3 in
    let taken = body_takes 0 (drop size rest) body (AreBytes-drop size rest bytes) read.2 in
    let token_length : length (take size rest) ≡ size = omega (arith, length-take size rest, read.1.within) in
    let bits = kind_takes (first / 16 % 4) (omega arith) in
    let first_is : 64 + 16 * kind_bits (kind_of (first / 16 % 4)) + length (take size rest) ≡ first = omega (arith, bits, token_length, start.0) in
    let rest_is : take size rest ++ body_spelling 0 body ≡ rest = ap (λ (t : List ℕ). take size rest ++ t) (sym taken.whole) ∙ take-append-drop size rest in
    let found = message_of first code id (take size rest) body in
    subst (λ (x : Message). Spells (first ∷ code ∷ high ∷ low ∷ rest) x) read.3 (record {
      lawful = fields_lawful first code id rest body bytes (omega arith) read.1 read.2;
      whole = sym (spelling-parts found ∙ ap (λ (b : ℕ). b ∷ code ∷ (to_be_bytes w16 id ++ (take size rest ++ body_spelling 0 body))) first_is
          ∙ ap (λ (t : List ℕ). first ∷ code ∷ (t ++ (take size rest ++ body_spelling 0 body))) (pair_bytes high low high_fits low_fits)
          ∙ ap (λ (t : List ℕ). first ∷ code ∷ high ∷ low ∷ t) rest_is);
    })

-- nothing follows the header of a bare message
bare_length : (m : Message) → IsBare m → length (m.token ++ body_spelling 0 (m.options, m.payload)) ≡ 0
unfolding options_spelling payload_spelling
bare_length m bare = rw (bare.token, bare.options, bare.payload) refl

-- a message that has a spelling is read again
pub message_again : (m : Message) → HasSpelling m → message_at (spelling m) ≡ Ok m
message_again m lawful =
    let first = 64 + 16 * kind_bits m.kind + length m.token in
    let rest = m.token ++ body_spelling 0 (m.options, m.payload) in
    let kind_fits : kind_bits m.kind < 4 = kind_below m.kind in
    let size_is : first % 16 ≡ length m.token = omega (arith, lawful.token) in
    let bits_are : first / 16 % 4 ≡ kind_bits m.kind = omega (arith, lawful.token) in
    let version : first / 64 ≡ 1 = omega (arith, lawful.token) in
    let body_is : body_at 0 (drop (first % 16) rest) ≡ Some (m.options, m.payload) =
    ap (λ (k : ℕ). body_at 0 (drop k rest)) size_is ∙ ap (body_at 0) (drop_at m.token (body_spelling 0 (m.options, m.payload)) (length m.token) refl) ∙ body_again 0 (m.options, m.payload) (record { options = lawful.options; payload = lawful.payload }) in
    let token_is : take (first % 16) rest ≡ m.token = ap (λ (k : ℕ). take k rest) size_is ∙ take_at m.token (body_spelling 0 (m.options, m.payload)) (length m.token) refl in
    let fields : AreFields first m.code rest = record {
      short = omega (arith, size_is, lawful.token);
      within = omega (arith, size_is, length-append m.token (body_spelling 0 (m.options, m.payload)));
      empty = λ zero_code. bare_length m (lawful.empty zero_code);
    } in
    let kind_is : kind_of (first / 16 % 4) ≡ m.kind = ap kind_of bits_are ∙ kind_again m.kind in
    ap message_at (spelling-parts m)
    ∙ at_header first m.code _ _ m.id rest version (omega (arith, lawful.id))
    ∙ fields_pass first m.code m.id rest (m.options, m.payload) fields body_is
    ∙ ap (λ (t : List ℕ). Ok (message_of first m.code m.id t (m.options, m.payload))) token_is
    ∙ ap (λ (k : Kind). Ok (record { kind = k; code = m.code; id = m.id; token = m.token; options = m.options; payload = m.payload })) kind_is

-- ---- the version

-- options and payload give no error of the version
body_version : (first code id : ℕ) (token : List ℕ) (body : Option Body) → with_body first code id token body ≡ Err Version → ⊥
body_version first code id token None e = cc
body_version first code id token (Some body) e = cc

-- a test of the reader gives no error of the version
refuses : {A : Type 0} (b : Bool) (r : Result A ParseError) → cond b (Err Format) r ≡ Err Version → r ≡ Err Version
refuses true r e = absurd cc
refuses false r e = e

-- what follows the header gives no error of the version
fields_version : (first code id : ℕ) (rest : List ℕ) → fields_at first code id rest ≡ Err Version → ⊥
unfolding fields_at
fields_version first code id rest e =
    let size = first % 16 in
    let last = with_body first code id (take size rest) (body_at 0 (drop size rest)) in
    let empty = eqb code 0 && ltb 0 (length rest) in
    let a = refuses (ltb 8 size) (cond (ltb (length rest) size) (Err Format) (cond empty (Err Format) last)) e in
    let b = refuses (ltb (length rest) size) (cond empty (Err Format) last) a in
    body_version first code id (take size rest) (body_at 0 (drop size rest)) (refuses empty last b)

-- that error comes from another version
other_version : (first code high low : ℕ) (rest : List ℕ) → message_at (first ∷ code ∷ high ∷ low ∷ rest) ≡ Err Version → first / 64 ≡ 1 → ⊥
other_version first code high low rest e is = fields_version first code (256 * high + low) rest (sym (at_header first code high low (256 * high + low) rest is refl) ∙ e)

-- another version is refused
version_refused : (first code high low : ℕ) (rest : List ℕ) → (first / 64 ≡ 1 → ⊥) → message_at (first ∷ code ∷ high ∷ low ∷ rest) ≡ Err Version
unfolding message_at
version_refused first code high low rest other = rw (ne_eqb (first / 64) 1 other) refl

abbrev failed : ParseError → Result Message ParseError
failed e = Err e

-- an error of the format is no error of the version
too_short : {A : Type 0} → failed Format ≡ failed Version → A
too_short e = absurd cc

-- an error of the version comes from another version
pub version_means : (bytes : List ℕ) → message_at bytes ≡ Err Version → HasOtherVersion bytes
unfolding message_at
version_means [] e = too_short e
version_means (a ∷ []) e = too_short e
version_means (a ∷ b ∷ []) e = too_short e
version_means (a ∷ b ∷ c ∷ []) e = too_short e
version_means (first ∷ code ∷ high ∷ low ∷ rest) e = record { long = omega arith; version = other_version first code high low rest e }

-- another version gives that error
pub version_comes : (bytes : List ℕ) → HasOtherVersion bytes → message_at bytes ≡ Err Version
version_comes [] h = absurd (omega (arith, h.long))
version_comes (a ∷ []) h = absurd (omega (arith, h.long))
version_comes (a ∷ b ∷ []) h = absurd (omega (arith, h.long))
version_comes (a ∷ b ∷ c ∷ []) h = absurd (omega (arith, h.long))
version_comes (first ∷ code ∷ high ∷ low ∷ rest) h = version_refused first code high low rest h.version

-- ---- for the code

-- what the reader found is spelled so
pub is_found : (bytes : List ℕ) (r : Result Message ParseError) → AreBytes bytes → r ≡ message_at bytes → IfOk r (λ m. Spells bytes m)
is_found bytes (Ok m) fits e = message_takes bytes m fits (sym e)
is_found bytes (Err e) fits is = tt

-- the body whose payload was read
parts_of : (body : Option Body) (payload : Option (List ℕ)) → Some payload ≡ option_map (λ body. body.1) body → body ≡ Some (unwrap_or (option_map (λ body. body.0) body) [], payload)
parts_of None payload e = absurd cc
parts_of (Some body) payload e = ap (λ (p : Option (List ℕ)). Some (body.0, p)) (sym (same_Some payload body.1 e))

-- the parts of what was read
pub parts_read : (bytes : List ℕ) (payload : Option (List ℕ)) → Some payload ≡ payload_in 0 bytes → body_at 0 bytes ≡ Some (options_in 0 bytes, payload)
parts_read bytes payload e = parts_of (body_at 0 bytes) payload e

-- what the reader's tests say of the message that it makes; rest is what follows the header
pub kept_lawful : (datagram rest : List ℕ) (first code id : ℕ) (token behind : List ℕ) (body : Body) → AreBytes datagram → rest ≡ take (length datagram - 4) (drop 4 datagram) → id < 2 ^ 16
    → AreFields first code rest → token ≡ take (first % 16) rest → behind ≡ drop (first % 16) rest → body_at 0 behind ≡ Some body → HasSpelling (message_of first code id token body)
kept_lawful datagram rest first code id token behind body bytes rest_is id_fits fields token_is behind_is e =
    let rest_bytes : AreBytes rest = subst AreBytes (sym (rest_is ∙ take_rest datagram 4)) (AreBytes-drop 4 datagram bytes) in
    subst (λ (t : List ℕ). HasSpelling (message_of first code id t body)) (sym token_is) (fields_lawful first code id rest body rest_bytes id_fits fields (ap (body_at 0) (sym behind_is) ∙ e))

-- what follows the token is spelled so
pub kept_spelled : (datagram rest : List ℕ) (size : ℕ) (behind : List ℕ) (body : Body) → AreBytes datagram → rest ≡ take (length datagram - 4) (drop 4 datagram)
    → behind ≡ drop size rest → body_at 0 behind ≡ Some body → behind ≡ body_spelling 0 body
kept_spelled datagram rest size behind body bytes rest_is behind_is e =
    let rest_bytes : AreBytes rest = subst AreBytes (sym (rest_is ∙ take_rest datagram 4)) (AreBytes-drop 4 datagram bytes) in
    (body_takes 0 behind body (subst AreBytes (sym behind_is) (AreBytes-drop size rest rest_bytes)) e).whole

-- bytes that spell two messages: they are one
pub same_message : (bytes : List ℕ) (m n : Message) → Spells bytes m → Spells bytes n → m ≡ n
same_message bytes m n p q =
    let first : message_at bytes ≡ Ok m = ap message_at p.whole ∙ message_again m p.lawful in
    let second : message_at bytes ≡ Ok n = ap message_at q.whole ∙ message_again n q.lawful in
    let both = sym first ∙ second in
    cc
