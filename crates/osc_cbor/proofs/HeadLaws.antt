-- Heads: what is read is a head, and a head is read.
use Rattle.std.proofs.Common.{◌≡◌, ℕ, zero, suc, ◌+◌, ◌*◌, ◌/◌, ◌%◌, ◌^◌, ◌<◌, ◌≤◌, false, ltb, List, [], ◌∷◌, ◌++◌, length, take, drop, Some, None, Ok, Err, refl, sym, ap, subst, ◌∙◌, arith, inl, inr}
use Rattle.std.specs.Int.{Width, w8, w16, w32, w64, byte_len, from_be_bytes, to_be_bytes}
use Rattle.std.proofs.lemmas.Bool.{cases_lt, cases_eq, lt-ltb, ltb-true, ltb-false, le-ltb, ne_eqb}
use Rattle.std.proofs.lemmas.List.{take_at, drop_at, take-append-drop, length-append, length-take}
use Rattle.std.proofs.lemmas.Nat.{be_bytes_2, be_bytes_4, be_bytes_8, from_be_bytes-to_be_bytes_2, from_be_bytes-to_be_bytes_4, from_be_bytes-to_be_bytes_8}
use Rattle.osc_cbor.specs.{IsHead, inline, in_one_byte, in_two_bytes, in_four_bytes, in_eight_bytes, IsExtended, by_one, by_two, by_four, by_eight, major_number, number_at, argument_at, major_of}
use Rattle.osc_cbor.specs.declared.heads.Major.{Major}
use Rattle.osc_cbor.specs.declared.heads.Major.TheVariants.{Unsigned, Negative, Bytes, Text, Array, Map, Tag}
use Rattle.osc_cbor.specs.declared.error.ReadError.{ReadError}
use Rattle.osc_cbor.specs.declared.error.ReadError.TheVariants.{Truncated, Unsupported}
use Rattle.osc_cbor.proofs.Steps.{AreBytes, AreBytes-drop, AreBytes-take, chosen, ok_is, err_is, ok_or_err}

-- ---- numbers of some bytes

pub record IsWide (w : Width) (limit : ℕ) : Type 0 where
  pub len : (n : ℕ) → length (to_be_bytes w n) ≡ byte_len w
  pub back : (bytes : List ℕ) → length bytes ≡ byte_len w → AreBytes bytes → to_be_bytes w (from_be_bytes w bytes) ≡ bytes
  pub again : (n : ℕ) → n < limit → from_be_bytes w (to_be_bytes w n) ≡ n
  pub below : (bytes : List ℕ) → AreBytes bytes → from_be_bytes w bytes < limit

one_byte_back : (bytes : List ℕ) → length bytes ≡ 1 → AreBytes bytes → to_be_bytes w8 (from_be_bytes w8 bytes) ≡ bytes
one_byte_back [] len fits = absurd (omega arith)
one_byte_back (b ∷ []) len fits = ap (λ (x : ℕ). x ∷ []) (omega (arith, fits 0))
one_byte_back (b ∷ c ∷ bytes) len fits = absurd (omega arith)

pub wide8 : IsWide w8 (2 ^ 8)
wide8 = record {
  len = λ n. refl;
  back = one_byte_back;
  again = λ n lt. omega arith;
  below = λ bytes fits. omega (arith, fits 0);
}

pub wide16 : IsWide w16 (2 ^ 16)
wide16 = record {
  len = λ n. refl;
  back = λ bytes len fits. be_bytes_2 bytes _ len fits refl;
  again = λ n lt. from_be_bytes-to_be_bytes_2 n lt;
  below = λ bytes fits. omega (arith, fits 0, fits 1);
}

pub wide32 : IsWide w32 (2 ^ 32)
wide32 = record {
  len = λ n. refl;
  back = λ bytes len fits. be_bytes_4 bytes _ len fits refl;
  again = λ n lt. from_be_bytes-to_be_bytes_4 n lt;
  below = λ bytes fits. omega (arith, fits 0, fits 1, fits 2, fits 3);
}

pub wide64 : IsWide w64 (2 ^ 64)
wide64 = record {
  len = λ n. refl;
  back = λ bytes len fits. be_bytes_8 bytes _ len fits refl;
  again = λ n lt. from_be_bytes-to_be_bytes_8 n lt;
  below = λ bytes fits. omega (arith, fits 0, fits 1, fits 2, fits 3, fits 4, fits 5, fits 6, fits 7);
}

-- what was taken from the front
pub record TookNumber (w : Width) (limit : ℕ) (bytes : List ℕ) (n : ℕ) (rest : List ℕ) : Type 0 where
  pub whole : bytes ≡ to_be_bytes w n ++ rest
  pub rest_fits : AreBytes rest
  pub below : n < limit

pub number_takes : (w : Width) (limit : ℕ) (wide : IsWide w limit) (bytes : List ℕ) (n : ℕ) (rest : List ℕ) → AreBytes bytes → number_at w bytes ≡ Ok (n, rest) → TookNumber w limit bytes n rest
number_takes w limit wide bytes n rest fits e =
    elim (chosen (ltb (length bytes) (byte_len w)) (Err Truncated) (Ok (from_be_bytes w (take (byte_len w) bytes), drop (byte_len w) bytes)) (Ok (n, rest)) e) [
      | inl bad ↦ absurd (ok_or_err (n, rest) Truncated (sym bad.1))
      | inr g ↦
          let long : byte_len w ≤ length bytes = ltb-false _ _ g.0 in
          let made = ok_is (from_be_bytes w (take (byte_len w) bytes), drop (byte_len w) bytes) (n, rest) g.1 in
          let n-is : from_be_bytes w (take (byte_len w) bytes) ≡ n = ap (λ (p : ℕ × List ℕ). p.0) made in
          let rest-is : drop (byte_len w) bytes ≡ rest = ap (λ (p : ℕ × List ℕ). p.1) made in
          let front : to_be_bytes w n ≡ take (byte_len w) bytes = rw (← n-is) (wide.back (take (byte_len w) bytes) (omega (arith, length-take (byte_len w) bytes)) (AreBytes-take (byte_len w) bytes fits)) in
          record {
            whole = rw (front, ← rest-is) (sym (take-append-drop (byte_len w) bytes));
            rest_fits = rw (← rest-is) (AreBytes-drop (byte_len w) bytes fits);
            below = rw (← n-is) (wide.below (take (byte_len w) bytes) (AreBytes-take (byte_len w) bytes fits));
          }
    ]

pub number_again : (w : Width) (limit : ℕ) (wide : IsWide w limit) (n : ℕ) (rest : List ℕ) → n < limit → number_at w (to_be_bytes w n ++ rest) ≡ Ok (n, rest)
number_again w limit wide n rest lt =
    let len = wide.len n in
    let long : ltb (length (to_be_bytes w n ++ rest)) (byte_len w) ≡ false = le-ltb _ _ (omega (arith, length-append (to_be_bytes w n) rest)) in
    rw (long, take_at (to_be_bytes w n) rest (byte_len w) len, drop_at (to_be_bytes w n) rest (byte_len w) len, wide.again n lt) refl

pub number_refuses : (w : Width) (bytes : List ℕ) (e : ReadError) → number_at w bytes ≡ Err e → (length bytes < byte_len w) × (e ≡ Truncated)
number_refuses w bytes e h =
    elim (chosen (ltb (length bytes) (byte_len w)) (Err Truncated) (Ok (from_be_bytes w (take (byte_len w) bytes), drop (byte_len w) bytes)) (Err e) h) [
      | inl bad ↦ (ltb-true _ _ bad.0, sym (err_is {A = ℕ × List ℕ} Truncated e bad.1))
      | inr g ↦ absurd (ok_or_err (from_be_bytes w (take (byte_len w) bytes), drop (byte_len w) bytes) e g.1)
    ]

pub number_short : (w : Width) (bytes : List ℕ) → length bytes < byte_len w → number_at w bytes ≡ Err Truncated
number_short w bytes lt = rw (lt-ltb _ _ lt) refl

-- ---- arguments

-- what five bits say
pub data BitsCase (bits : ℕ) : Type 0 where
  below_24 : bits < 24 → BitsCase bits
  is_24 : bits ≡ 24 → BitsCase bits
  is_25 : bits ≡ 25 → BitsCase bits
  is_26 : bits ≡ 26 → BitsCase bits
  is_27 : bits ≡ 27 → BitsCase bits
  from_28 : 28 ≤ bits → BitsCase bits

pub bits_case : (bits : ℕ) → BitsCase bits
bits_case bits =
    elim (cases_lt bits 24) [
      | inl lt ↦ below_24 lt
      | inr a ↦ elim (cases_eq bits 24) [
        | inl is ↦ is_24 is
        | inr b ↦ elim (cases_eq bits 25) [
          | inl is ↦ is_25 is
          | inr c ↦ elim (cases_eq bits 26) [
            | inl is ↦ is_26 is
            | inr d ↦ elim (cases_eq bits 27) [
              | inl is ↦ is_27 is
              | inr e ↦ from_28 (omega arith)
            ]
          ]
        ]
      ]
    ]

pub argument_inline : (bits : ℕ) (bytes : List ℕ) → bits < 24 → argument_at bits bytes ≡ Ok (bits, bytes)
unfolding argument_at
argument_inline bits bytes lt = rw (lt-ltb bits 24 lt) refl

pub argument_24 : (bytes : List ℕ) → argument_at 24 bytes ≡ number_at w8 bytes
unfolding argument_at
argument_24 bytes = refl

pub argument_25 : (bytes : List ℕ) → argument_at 25 bytes ≡ number_at w16 bytes
unfolding argument_at
argument_25 bytes = refl

pub argument_26 : (bytes : List ℕ) → argument_at 26 bytes ≡ number_at w32 bytes
unfolding argument_at
argument_26 bytes = refl

pub argument_27 : (bytes : List ℕ) → argument_at 27 bytes ≡ number_at w64 bytes
unfolding argument_at
argument_27 bytes = refl

pub argument_reserved : (bits : ℕ) (bytes : List ℕ) → 28 ≤ bits → argument_at bits bytes ≡ Err Unsupported
unfolding argument_at
argument_reserved bits bytes le = rw (le-ltb bits 24 (omega arith), ne_eqb bits 24 (omega arith), ne_eqb bits 25 (omega arith), ne_eqb bits 26 (omega arith), ne_eqb bits 27 (omega arith)) refl

-- what the argument took from the front
pub record Extends (bits : ℕ) (bytes : List ℕ) (n : ℕ) (rest : List ℕ) : Type 0 where
  pub extension : List ℕ
  pub whole : bytes ≡ extension ++ rest
  pub rest_fits : AreBytes rest
  pub is_head : (major : ℕ) → IsHead major n ((32 * major + bits) ∷ extension)

pub argument_takes : (bits : ℕ) (bytes : List ℕ) (n : ℕ) (rest : List ℕ) → AreBytes bytes → argument_at bits bytes ≡ Ok (n, rest) → Extends bits bytes n rest
argument_takes bits bytes n rest fits e =
    elim (bits_case bits) [
      | below_24 lt ↦
          let made = ok_is (bits, bytes) (n, rest) (sym (argument_inline bits bytes lt) ∙ e) in
          let n-is : bits ≡ n = ap (λ (p : ℕ × List ℕ). p.0) made in
          let rest-is : bytes ≡ rest = ap (λ (p : ℕ × List ℕ). p.1) made in
          record {
            extension = [];
            whole = rest-is;
            rest_fits = subst AreBytes rest-is fits;
            is_head = λ major. inline (omega arith) (ap (λ (k : ℕ). (32 * major + k) ∷ []) n-is);
          }
      | is_24 is ↦
          let t = number_takes w8 (2 ^ 8) wide8 bytes n rest fits (sym (ap (λ b. argument_at b bytes) is ∙ argument_24 bytes) ∙ e) in
          record { extension = to_be_bytes w8 n; whole = t.whole; rest_fits = t.rest_fits; is_head = λ major. in_one_byte t.below (ap (λ (k : ℕ). (32 * major + k) ∷ to_be_bytes w8 n) is) }
      | is_25 is ↦
          let t = number_takes w16 (2 ^ 16) wide16 bytes n rest fits (sym (ap (λ b. argument_at b bytes) is ∙ argument_25 bytes) ∙ e) in
          record { extension = to_be_bytes w16 n; whole = t.whole; rest_fits = t.rest_fits; is_head = λ major. in_two_bytes t.below (ap (λ (k : ℕ). (32 * major + k) ∷ to_be_bytes w16 n) is) }
      | is_26 is ↦
          let t = number_takes w32 (2 ^ 32) wide32 bytes n rest fits (sym (ap (λ b. argument_at b bytes) is ∙ argument_26 bytes) ∙ e) in
          record { extension = to_be_bytes w32 n; whole = t.whole; rest_fits = t.rest_fits; is_head = λ major. in_four_bytes t.below (ap (λ (k : ℕ). (32 * major + k) ∷ to_be_bytes w32 n) is) }
      | is_27 is ↦
          let t = number_takes w64 (2 ^ 64) wide64 bytes n rest fits (sym (ap (λ b. argument_at b bytes) is ∙ argument_27 bytes) ∙ e) in
          record { extension = to_be_bytes w64 n; whole = t.whole; rest_fits = t.rest_fits; is_head = λ major. in_eight_bytes t.below (ap (λ (k : ℕ). (32 * major + k) ∷ to_be_bytes w64 n) is) }
      | from_28 le ↦ absurd (ok_or_err (n, rest) Unsupported (sym e ∙ argument_reserved bits bytes le))
    ]

-- a head, as its first byte and the argument that is read after it
pub record Heads (major n : ℕ) (front rest : List ℕ) : Type 0 where
  pub bits : ℕ
  pub extension : List ℕ
  pub below : bits < 28
  pub first : front ≡ (32 * major + bits) ∷ extension
  pub read : argument_at bits (extension ++ rest) ≡ Ok (n, rest)

pub argument_again : (major n : ℕ) (front rest : List ℕ) → IsHead major n front → Heads major n front rest
argument_again major n front rest (inline lt e) = record { bits = n; extension = []; below = omega arith; first = e; read = argument_inline n rest lt }
argument_again major n front rest (in_one_byte lt e) = record { bits = 24; extension = to_be_bytes w8 n; below = omega arith; first = e; read = argument_24 _ ∙ number_again w8 (2 ^ 8) wide8 n rest lt }
argument_again major n front rest (in_two_bytes lt e) = record { bits = 25; extension = to_be_bytes w16 n; below = omega arith; first = e; read = argument_25 _ ∙ number_again w16 (2 ^ 16) wide16 n rest lt }
argument_again major n front rest (in_four_bytes lt e) = record { bits = 26; extension = to_be_bytes w32 n; below = omega arith; first = e; read = argument_26 _ ∙ number_again w32 (2 ^ 32) wide32 n rest lt }
argument_again major n front rest (in_eight_bytes lt e) = record { bits = 27; extension = to_be_bytes w64 n; below = omega arith; first = e; read = argument_27 _ ∙ number_again w64 (2 ^ 64) wide64 n rest lt }

-- why an argument is refused
pub data ArgumentFails (bits : ℕ) (bytes : List ℕ) (e : ReadError) : Type 0 where
  is_reserved : 28 ≤ bits → e ≡ Unsupported → ArgumentFails bits bytes e
  is_short : (size : ℕ) → IsExtended bits size → length bytes < size → e ≡ Truncated → ArgumentFails bits bytes e

pub argument_refuses : (bits : ℕ) (bytes : List ℕ) (e : ReadError) → argument_at bits bytes ≡ Err e → ArgumentFails bits bytes e
argument_refuses bits bytes e h =
    elim (bits_case bits) [
      | below_24 lt ↦ absurd (ok_or_err (bits, bytes) e (sym (argument_inline bits bytes lt) ∙ h))
      | is_24 is ↦ let r = number_refuses w8 bytes e (sym (ap (λ b. argument_at b bytes) is ∙ argument_24 bytes) ∙ h) in is_short 1 (by_one is refl) r.0 r.1
      | is_25 is ↦ let r = number_refuses w16 bytes e (sym (ap (λ b. argument_at b bytes) is ∙ argument_25 bytes) ∙ h) in is_short 2 (by_two is refl) r.0 r.1
      | is_26 is ↦ let r = number_refuses w32 bytes e (sym (ap (λ b. argument_at b bytes) is ∙ argument_26 bytes) ∙ h) in is_short 4 (by_four is refl) r.0 r.1
      | is_27 is ↦ let r = number_refuses w64 bytes e (sym (ap (λ b. argument_at b bytes) is ∙ argument_27 bytes) ∙ h) in is_short 8 (by_eight is refl) r.0 r.1
      | from_28 le ↦ is_reserved le (sym (err_is {A = ℕ × List ℕ} Unsupported e (sym (argument_reserved bits bytes le) ∙ h)))
    ]

pub argument_short : (bits size : ℕ) (bytes : List ℕ) → IsExtended bits size → length bytes < size → argument_at bits bytes ≡ Err Truncated
argument_short bits size bytes (by_one is s) lt = ap (λ b. argument_at b bytes) is ∙ argument_24 bytes ∙ number_short w8 bytes (omega arith)
argument_short bits size bytes (by_two is s) lt = ap (λ b. argument_at b bytes) is ∙ argument_25 bytes ∙ number_short w16 bytes (omega arith)
argument_short bits size bytes (by_four is s) lt = ap (λ b. argument_at b bytes) is ∙ argument_26 bytes ∙ number_short w32 bytes (omega arith)
argument_short bits size bytes (by_eight is s) lt = ap (λ b. argument_at b bytes) is ∙ argument_27 bytes ∙ number_short w64 bytes (omega arith)

-- ---- major types

pub major_again : (m : Major) → major_of (major_number m) ≡ Some m
major_again Unsigned = refl
major_again Negative = refl
major_again Bytes = refl
major_again Text = refl
major_again Array = refl
major_again Map = refl
major_again Tag = refl

some_is : (m n : Major) → Some m ≡ Some n → m ≡ n
some_is m n e = cc

no_major : (m : Major) → None ≡ Some m → ⊥
no_major m e = cc

pub major_takes : (k : ℕ) (m : Major) → major_of k ≡ Some m → major_number m ≡ k
major_takes zero m e = ap major_number (sym (some_is Unsigned m e))
major_takes (suc zero) m e = ap major_number (sym (some_is Negative m e))
major_takes (suc (suc zero)) m e = ap major_number (sym (some_is Bytes m e))
major_takes (suc (suc (suc zero))) m e = ap major_number (sym (some_is Text m e))
major_takes (suc (suc (suc (suc zero)))) m e = ap major_number (sym (some_is Array m e))
major_takes (suc (suc (suc (suc (suc zero))))) m e = ap major_number (sym (some_is Map m e))
major_takes (suc (suc (suc (suc (suc (suc zero)))))) m e = ap major_number (sym (some_is Tag m e))
major_takes (suc (suc (suc (suc (suc (suc (suc k))))))) m e = absurd (no_major m e)

pub major_below : (m : Major) → major_number m < 7
major_below Unsigned = omega arith
major_below Negative = omega arith
major_below Bytes = omega arith
major_below Text = omega arith
major_below Array = omega arith
major_below Map = omega arith
major_below Tag = omega arith

pub major_none : (k : ℕ) → 7 ≤ k → major_of k ≡ None
major_none zero le = absurd (omega arith)
major_none (suc zero) le = absurd (omega arith)
major_none (suc (suc zero)) le = absurd (omega arith)
major_none (suc (suc (suc zero))) le = absurd (omega arith)
major_none (suc (suc (suc (suc zero)))) le = absurd (omega arith)
major_none (suc (suc (suc (suc (suc zero))))) le = absurd (omega arith)
major_none (suc (suc (suc (suc (suc (suc zero)))))) le = absurd (omega arith)
major_none (suc (suc (suc (suc (suc (suc (suc k))))))) le = refl

pub major_past : (k : ℕ) → major_of k ≡ None → 7 ≤ k
major_past k e =
    elim (cases_lt k 7) [
      | inl lt ↦ absurd (major_some k lt e)
      | inr le ↦ le
    ]
  where
    major_some : (k : ℕ) → k < 7 → major_of k ≡ None → ⊥
    major_some zero lt e = cc
    major_some (suc zero) lt e = cc
    major_some (suc (suc zero)) lt e = cc
    major_some (suc (suc (suc zero))) lt e = cc
    major_some (suc (suc (suc (suc zero)))) lt e = cc
    major_some (suc (suc (suc (suc (suc zero))))) lt e = cc
    major_some (suc (suc (suc (suc (suc (suc zero)))))) lt e = cc
    major_some (suc (suc (suc (suc (suc (suc (suc k))))))) lt e = omega arith

-- a major type below 7 and those that read it
pub major_at : (k : ℕ) → k < 7 → (m : Major) × (major_of k ≡ Some m)
major_at zero lt = (Unsigned, refl)
major_at (suc zero) lt = (Negative, refl)
major_at (suc (suc zero)) lt = (Bytes, refl)
major_at (suc (suc (suc zero))) lt = (Text, refl)
major_at (suc (suc (suc (suc zero)))) lt = (Array, refl)
major_at (suc (suc (suc (suc (suc zero))))) lt = (Map, refl)
major_at (suc (suc (suc (suc (suc (suc zero)))))) lt = (Tag, refl)
major_at (suc (suc (suc (suc (suc (suc (suc k))))))) lt = absurd (omega arith)

-- the two parts of a first byte
pub major_part : (major bits : ℕ) → bits < 32 → (32 * major + bits) / 32 ≡ major
major_part major bits lt = omega arith

pub bits_part : (major bits : ℕ) → bits < 32 → (32 * major + bits) % 32 ≡ bits
bits_part major bits lt = omega arith
