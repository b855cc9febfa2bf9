-- An option that is read is the one that was written, and what was written is read again.
use Rattle.std.proofs.Common.{◌≡◌, ℕ, ◌+◌, ◌-◌, ◌*◌, ◌/◌, ◌%◌, ◌^◌, ◌<◌, ◌≤◌, false, cond, ltb, List, [], ◌∷◌, ◌++◌, length, take, drop, Some, None, refl, sym, ap, subst, ◌∙◌, append_assoc, arith, inl, inr}
use Rattle.std.specs.Int.{w16, to_be_bytes}
use Rattle.std.proofs.lemmas.Bool.{cases_lt, ltb-false, le-ltb, lt-ltb, ne_eqb}
use Rattle.std.proofs.lemmas.List.{take_at, drop_at, take-append-drop, length-append, length-take, length-drop}
use Rattle.std.proofs.lemmas.Option.{some_pair_parts}
use Rattle.std.specs.Option.{option_map}
use Rattle.osc_coap.specs.{NumberAndValue, nibble, extension, option_spelling, IsOptionBehind, AreBytes, ◌>>=◌, above, byte_at, two_bytes_at, extended_at, option_at}
use Rattle.osc_coap.proofs.Steps.{AreBytes-rest, AreBytes-drop, bind_some, goes_on, Takes, Takes-then}

-- the three forms of a number
pub nibble_small : (n : ℕ) → n < 13 → (nibble n ≡ n) × (extension n ≡ [])
unfolding nibble extension
nibble_small n lt = (rw (lt-ltb n 13 lt) refl, rw (lt-ltb n 13 lt) refl)

pub nibble_middle : (n : ℕ) → 13 ≤ n → n < 269 → (nibble n ≡ 13) × (extension n ≡ (n - 13) ∷ [])
unfolding nibble extension
nibble_middle n le lt = (rw (le-ltb n 13 le, lt-ltb n 269 lt) refl, rw (le-ltb n 13 le, lt-ltb n 269 lt) refl)

pub nibble_large : (n : ℕ) → 269 ≤ n → (nibble n ≡ 14) × (extension n ≡ to_be_bytes w16 (n - 269))
unfolding nibble extension
nibble_large n le =
    let not_small : 13 ≤ n = omega arith in
    (rw (le-ltb n 13 not_small, le-ltb n 269 le) refl, rw (le-ltb n 13 not_small, le-ltb n 269 le) refl)

-- a nibble that is written is not 15
pub nibble_below : (n : ℕ) → nibble n < 15
nibble_below n =
    elim (cases_lt n 13) [
      | inl lt ↦ rw ((nibble_small n lt).0) (omega arith)
      | inr le ↦ elim (cases_lt n 269) [
        | inl lt ↦ rw ((nibble_middle n le lt).0) (omega arith)
        | inr large ↦ rw ((nibble_large n large).0) (omega arith)
      ]
    ]

-- each form at the reader
at_small : (n : ℕ) (rest : List ℕ) → n < 13 → extended_at n rest ≡ Some (n, rest)
unfolding extended_at
at_small n rest lt = rw (lt-ltb n 13 lt) refl

at_13 : (bytes : List ℕ) → extended_at 13 bytes ≡ option_map (above 13) (byte_at bytes)
unfolding extended_at
at_13 bytes = refl

at_14 : (bytes : List ℕ) → extended_at 14 bytes ≡ option_map (above 269) (two_bytes_at bytes)
unfolding extended_at
at_14 bytes = refl

at_15 : (bits : ℕ) (bytes : List ℕ) → 15 ≤ bits → extended_at bits bytes ≡ None
unfolding extended_at
at_15 bits bytes le = rw (le-ltb bits 13 (omega arith), ne_eqb bits 13 (λ e. omega arith), ne_eqb bits 14 (λ e. omega arith)) refl

-- a number that is written is read again
pub extended_again : (n : ℕ) (rest : List ℕ) → n < 2 ^ 16 + 269 → extended_at (nibble n) (extension n ++ rest) ≡ Some (n, rest)
extended_again n rest fits =
    elim (cases_lt n 13) [
      | inl lt ↦ rw ((nibble_small n lt).0, (nibble_small n lt).1) (at_small n rest lt)
      | inr le ↦ elim (cases_lt n 269) [
        | inl lt ↦
            let same : 13 + (n - 13) ≡ n = omega arith in
            rw ((nibble_middle n le lt).0, (nibble_middle n le lt).1) (at_13 ((n - 13) ∷ rest) ∙ ap (λ (m : ℕ). Some (m, rest)) same)
        | inr large ↦ rw ((nibble_large n large).0, (nibble_large n large).1) (at_14 (to_be_bytes w16 (n - 269) ++ rest) ∙ ap (λ (m : ℕ). Some (m, rest)) (omega arith))
      ]
    ]

-- what bits and an extension are, once read
pub record IsExtended (bits : ℕ) (bytes : List ℕ) (n : ℕ) (rest : List ℕ) : Type 0 where
  pub bits_are : nibble n ≡ bits
  pub takes : Takes bytes (extension n) rest
  pub fits : n < 2 ^ 16 + 269

-- an extension of one byte
takes_13 : (bytes : List ℕ) (n : ℕ) (rest : List ℕ) → AreBytes bytes → option_map (above 13) (byte_at bytes) ≡ Some (n, rest) → IsExtended 13 bytes n rest
takes_13 [] n rest fits e = absurd cc
takes_13 (b ∷ bytes) n rest fits e =
    let p = some_pair_parts (13 + b) n bytes rest e in
    let below : b < 256 = fits 0 in
    let form = nibble_middle n (omega arith) (omega arith) in
    let same : n - 13 ≡ b = omega arith in
    record {
      bits_are = form.0;
      takes = record { parts = rw (form.1, same, ← p.1) refl; rest_fits = rw (← p.1) (AreBytes-rest b bytes fits) };
      fits = omega arith;
    }

-- two bytes are a number in network byte order
pub pair_bytes : (a b : ℕ) → a < 256 → b < 256 → to_be_bytes w16 (256 * a + b) ≡ a ∷ b ∷ []
pair_bytes a b p q =
    let high : (256 * a + b) / 256 % 256 ≡ a = omega arith in
    let low : (256 * a + b) % 256 ≡ b = omega arith in
    rw (high, low) refl

-- an extension of two bytes
takes_14 : (bytes : List ℕ) (n : ℕ) (rest : List ℕ) → AreBytes bytes → option_map (above 269) (two_bytes_at bytes) ≡ Some (n, rest) → IsExtended 14 bytes n rest
takes_14 [] n rest fits e = absurd cc
takes_14 (a ∷ []) n rest fits e = absurd cc
takes_14 (a ∷ b ∷ bytes) n rest fits e =
    let p = some_pair_parts (269 + (256 * a + b)) n bytes rest e in
    let a_below : a < 256 = fits 0 in
    let b_below : b < 256 = fits 1 in
    let form = nibble_large n (omega arith) in
    let same : n - 269 ≡ 256 * a + b = omega arith in
    record {
      bits_are = form.0;
      takes = record { parts = ap (λ (t : List ℕ). a ∷ b ∷ t) p.1 ∙ sym (ap (λ (t : List ℕ). t ++ rest) (form.1 ∙ ap (to_be_bytes w16) same ∙ pair_bytes a b a_below b_below)); rest_fits = rw (← p.1) (AreBytes-rest b bytes (AreBytes-rest a (b ∷ bytes) fits)) };
      fits = omega arith;
    }

-- a number that is read is written so
pub extended_takes : (bits : ℕ) (bytes : List ℕ) (n : ℕ) (rest : List ℕ) → AreBytes bytes → extended_at bits bytes ≡ Some (n, rest) → IsExtended bits bytes n rest
extended_takes bits bytes n rest fits e =
    elim (cases_lt bits 13) [
      | inl lt ↦
          let p = some_pair_parts bits n bytes rest (sym (at_small bits bytes lt) ∙ e) in
          let form = nibble_small n (omega arith) in
          record {
            bits_are = form.0 ∙ sym p.0;
            takes = record { parts = rw (form.1) p.1; rest_fits = rw (← p.1) fits };
            fits = omega arith;
          }
      | inr le ↦ elim (cases_lt bits 14) [
        | inl lt ↦
            let is : bits ≡ 13 = omega arith in
            rw is (takes_13 bytes n rest fits (sym (at_13 bytes) ∙ (rw is at e)))
        | inr above ↦ elim (cases_lt bits 15) [
          | inl lt ↦
              let is : bits ≡ 14 = omega arith in
              rw is (takes_14 bytes n rest fits (sym (at_14 bytes) ∙ (rw is at e)))
          | inr past ↦
              let none = at_15 bits bytes past in
              absurd cc
        ]
      ]
    ]

-- ---- an option

-- the delta's nibble and the length's
abbrev pub first_byte : ℕ → NumberAndValue → ℕ
first_byte before option = 16 * nibble (option.0 - before) + nibble (length option.1)

-- an option and what follows it, byte by byte at the front
pub option_spelling-cons : (before : ℕ) (option : NumberAndValue) (rest : List ℕ) → option_spelling before option ++ rest ≡ first_byte before option ∷ (extension (option.0 - before) ++ (extension (length option.1) ++ (option.1 ++ rest)))
unfolding option_spelling
option_spelling-cons before option rest = simp append_assoc

-- no option begins as the marker does
pub first_byte_below : (before : ℕ) (option : NumberAndValue) → first_byte before option < 255
first_byte_below before option = omega (arith, nibble_below (option.0 - before), nibble_below (length option.1))

-- an option that is written is read again
pub option_again : (before : ℕ) (option : NumberAndValue) (rest : List ℕ) → IsOptionBehind before option → option_at before (option_spelling before option ++ rest) ≡ Some (option, rest)
unfolding option_at
option_again before option rest fits =
    let delta = option.0 - before in
    let size = length option.1 in
    let size_below = nibble_below size in
    let high : (16 * nibble delta + nibble size) / 16 ≡ nibble delta = omega arith in
    let low : (16 * nibble delta + nibble size) % 16 ≡ nibble size = omega arith in
    let number : before + delta ≡ option.0 = omega (arith, fits.rises) in
    let in_range : ltb 65535 option.0 ≡ false = le-ltb _ _ (omega (arith, fits.number)) in
    let long : ltb (length (option.1 ++ rest)) size ≡ false = le-ltb _ _ (omega (arith, length-append option.1 rest)) in
    ap (option_at before) (option_spelling-cons before option rest)
    ∙ rw (high, low, extended_again delta (extension size ++ (option.1 ++ rest)) (omega (arith, fits.number)), extended_again size (option.1 ++ rest) fits.size, number, in_range, long, take_at option.1 rest size refl, drop_at option.1 rest size refl) refl

pub record IsOptionRead (before : ℕ) (bytes : List ℕ) (option : NumberAndValue) (rest : List ℕ) : Type 0 where
  pub takes : Takes bytes (option_spelling before option) rest
  pub fits : IsOptionBehind before option

-- the spelling of an option from its parts
option_made : (before head delta size : ℕ) (value : List ℕ) → length value ≡ size → nibble delta ≡ head / 16 → nibble size ≡ head % 16 → option_spelling before (before + delta, value) ≡ head ∷ (extension delta ++ (extension size ++ value))
unfolding option_spelling
option_made before head delta size value len high low =
    let delta_is : before + delta - before ≡ delta = omega arith in
    let head_is : 16 * nibble delta + nibble size ≡ head = omega arith in
    rw (delta_is, len, head_is) (ap (λ (t : List ℕ). head ∷ t) (append_assoc (extension delta) (extension size) value))

-- an option that is read is written so
pub option_takes : (before : ℕ) (bytes : List ℕ) (option : NumberAndValue) (rest : List ℕ) → AreBytes bytes → option_at before bytes ≡ Some (option, rest) → IsOptionRead before bytes option rest
unfolding option_at
option_takes before [] option rest fits e = absurd cc
option_takes before (head ∷ bytes) option rest fits e =
    let tail = AreBytes-rest head bytes fits in
    let a = bind_some (extended_at (head / 16) bytes) (λ delta. extended_at (head % 16) delta.1 >>= λ size. cond (ltb 65535 (before + delta.0)) None (cond (ltb (length size.1) size.0) None (Some ((before + delta.0, take size.0 size.1), drop size.0 size.1)))) (option, rest) e in
    let delta = a.0 in
    let b = bind_some (extended_at (head % 16) delta.1) (λ size. cond (ltb 65535 (before + delta.0)) None (cond (ltb (length size.1) size.0) None (Some ((before + delta.0, take size.0 size.1), drop size.0 size.1)))) (option, rest) a.2 in
    let size = b.0 in
    let g = goes_on (ltb 65535 (before + delta.0)) (cond (ltb (length size.1) size.0) None (Some ((before + delta.0, take size.0 size.1), drop size.0 size.1))) (option, rest) b.2 in
    let h = goes_on (ltb (length size.1) size.0) (Some ((before + delta.0, take size.0 size.1), drop size.0 size.1)) (option, rest) g.1 in
    let first = extended_takes (head / 16) bytes delta.0 delta.1 tail a.1 in
    let second = extended_takes (head % 16) delta.1 size.0 size.1 first.takes.rest_fits b.1 in
    let long : size.0 ≤ length size.1 = ltb-false _ _ h.0 in
    let len : length (take size.0 size.1) ≡ size.0 = omega (arith, length-take size.0 size.1) in
    let value : Takes size.1 (take size.0 size.1) (drop size.0 size.1) = record { parts = sym (take-append-drop size.0 size.1); rest_fits = AreBytes-drop size.0 size.1 second.takes.rest_fits } in
    let behind = Takes-then delta.1 (extension size.0) size.1 (take size.0 size.1) (drop size.0 size.1) second.takes value in
    let all = Takes-then bytes (extension delta.0) delta.1 (extension size.0 ++ take size.0 size.1) (drop size.0 size.1) first.takes behind in
    let found : NumberAndValue = (before + delta.0, take size.0 size.1) in
    let text : option_spelling before found ≡ head ∷ (extension delta.0 ++ (extension size.0 ++ take size.0 size.1)) = option_made before head delta.0 size.0 (take size.0 size.1) len first.bits_are second.bits_are in
    let read : IsOptionRead before (head ∷ bytes) found (drop size.0 size.1) = record {
      takes = record { parts = rw text (ap (λ (t : List ℕ). head ∷ t) all.parts); rest_fits = all.rest_fits };
      fits = record { rises = omega arith; number = omega (arith, ltb-false 65535 (before + delta.0) g.0); size = omega (arith, len, second.fits) };
    } in
    let parts = some_pair_parts found option (drop size.0 size.1) rest h.1 in
    subst (λ (o : NumberAndValue). IsOptionRead before (head ∷ bytes) o rest) parts.0 (subst (λ (r : List ℕ). IsOptionRead before (head ∷ bytes) found r) parts.1 read)

-- ---- a reader leaves less

left_13 : (bytes : List ℕ) (n : ℕ × List ℕ) → option_map (above 13) (byte_at bytes) ≡ Some n → length n.1 ≤ length bytes
left_13 [] n e = absurd cc
left_13 (b ∷ bytes) n e = omega (arith, ap length ((some_pair_parts (13 + b) n.0 bytes n.1 e).1))

left_14 : (bytes : List ℕ) (n : ℕ × List ℕ) → option_map (above 269) (two_bytes_at bytes) ≡ Some n → length n.1 ≤ length bytes
left_14 [] n e = absurd cc
left_14 (a ∷ []) n e = absurd cc
left_14 (a ∷ b ∷ bytes) n e = omega (arith, ap length ((some_pair_parts (269 + (256 * a + b)) n.0 bytes n.1 e).1))

extended_left : (bits : ℕ) (bytes : List ℕ) (n : ℕ × List ℕ) → extended_at bits bytes ≡ Some n → length n.1 ≤ length bytes
extended_left bits bytes n e =
    elim (cases_lt bits 13) [
      | inl lt ↦ omega (arith, ap length ((some_pair_parts bits n.0 bytes n.1 (sym (at_small bits bytes lt) ∙ e)).1))
      | inr le ↦ elim (cases_lt bits 14) [
        | inl lt ↦
            let is : bits ≡ 13 = omega arith in
            left_13 bytes n (sym (at_13 bytes) ∙ (rw is at e))
        | inr above ↦ elim (cases_lt bits 15) [
          | inl lt ↦
              let is : bits ≡ 14 = omega arith in
              left_14 bytes n (sym (at_14 bytes) ∙ (rw is at e))
          | inr past ↦
              let none = at_15 bits bytes past in
              absurd cc
        ]
      ]
    ]

-- an option that is read leaves less
pub option_left : (before : ℕ) (bytes : List ℕ) (x : NumberAndValue × List ℕ) → option_at before bytes ≡ Some x → length x.1 < length bytes
unfolding option_at
option_left before [] x e = absurd cc
option_left before (head ∷ bytes) x e =
    let a = bind_some (extended_at (head / 16) bytes) (λ delta. extended_at (head % 16) delta.1 >>= λ size. cond (ltb 65535 (before + delta.0)) None (cond (ltb (length size.1) size.0) None (Some ((before + delta.0, take size.0 size.1), drop size.0 size.1)))) x e in
    let delta = a.0 in
    let b = bind_some (extended_at (head % 16) delta.1) (λ size. cond (ltb 65535 (before + delta.0)) None (cond (ltb (length size.1) size.0) None (Some ((before + delta.0, take size.0 size.1), drop size.0 size.1)))) x a.2 in
    let size = b.0 in
    let g = goes_on (ltb 65535 (before + delta.0)) (cond (ltb (length size.1) size.0) None (Some ((before + delta.0, take size.0 size.1), drop size.0 size.1))) x b.2 in
    let h = goes_on (ltb (length size.1) size.0) (Some ((before + delta.0, take size.0 size.1), drop size.0 size.1)) x g.1 in
    let parts = some_pair_parts (before + delta.0, take size.0 size.1) x.0 (drop size.0 size.1) x.1 h.1 in
    omega (arith, extended_left (head / 16) bytes delta a.1, extended_left (head % 16) delta.1 size b.1, length-drop size.0 size.1, ap length parts.1)
