-- A Partial IV is read as its number, and is the one of the number that it is read as.
use Rattle.std.proofs.Common.{◌≡◌, ℕ, ◌+◌, ◌*◌, ◌/◌, ◌%◌, ◌^◌, ◌<◌, ◌≤◌, true, false, cond, eqb, List, [], ◌∷◌, length, get_or, refl, sym, ap, ◌∙◌, arith}
use Rattle.std.proofs.lemmas.Bool.{eqb-true}
use Rattle.osc_context.specs.{greatest_number, five_bytes, without_zeros, partial_iv}
use Rattle.osc_protect.specs.Inner.ValueReading.{number_in, has_leading_zero}

-- each element is a byte
abbrev pub AreBytes : List ℕ → Type 0
AreBytes bytes = (i : ℕ) → get_or bytes i 0 < 256

-- ---- without leading zeros

pub length-without_zeros : (bytes : List ℕ) → length (without_zeros bytes) ≤ length bytes
length-without_zeros [] = omega arith
length-without_zeros (b ∷ []) = omega arith
length-without_zeros (b ∷ c ∷ bytes) =
    let h : length (without_zeros (c ∷ bytes)) ≤ length (c ∷ bytes) = length-without_zeros (c ∷ bytes) in
    elim (eqb b 0) as (λ t. length (cond t (without_zeros (c ∷ bytes)) (b ∷ c ∷ bytes)) ≤ length (b ∷ c ∷ bytes)) [ true ↦ omega arith | false ↦ omega arith ]

pub some-without_zeros : (bytes : List ℕ) → 0 < length bytes → 0 < length (without_zeros bytes)
some-without_zeros [] some = some
some-without_zeros (b ∷ []) some = omega arith
some-without_zeros (b ∷ c ∷ bytes) some =
    let h : 0 < length (without_zeros (c ∷ bytes)) = some-without_zeros (c ∷ bytes) (omega arith) in
    elim (eqb b 0) as (λ t. 0 < length (cond t (without_zeros (c ∷ bytes)) (b ∷ c ∷ bytes))) [ true ↦ h | false ↦ omega arith ]

has_leading_zero-without_zeros : (bytes : List ℕ) → has_leading_zero (without_zeros bytes) ≡ false
has_leading_zero-without_zeros [] = refl
has_leading_zero-without_zeros (b ∷ []) = refl
has_leading_zero-without_zeros (b ∷ c ∷ bytes) =
    (elim (eqb b 0) as (λ t. eqb b 0 ≡ t → has_leading_zero (cond t (without_zeros (c ∷ bytes)) (b ∷ c ∷ bytes)) ≡ false) [
      | true ↦ λ zero_first. has_leading_zero-without_zeros (c ∷ bytes)
      | false ↦ λ other_first. other_first
    ]) refl

number_in-without_zeros : (bytes : List ℕ) → number_in (without_zeros bytes) ≡ number_in bytes
number_in-without_zeros [] = refl
number_in-without_zeros (b ∷ []) = refl
number_in-without_zeros (b ∷ c ∷ bytes) =
    (elim (eqb b 0) as (λ t. eqb b 0 ≡ t → number_in (cond t (without_zeros (c ∷ bytes)) (b ∷ c ∷ bytes)) ≡ number_in (b ∷ c ∷ bytes)) [
      | true ↦ λ zero_first. number_in-without_zeros (c ∷ bytes) ∙ ap (λ first. number_in (first ∷ c ∷ bytes)) (sym (eqb-true b 0 zero_first))
      | false ↦ λ other_first. refl
    ]) refl

-- ---- from the number to its bytes

pub partial_iv-some : (n : ℕ) → 0 < length (partial_iv n)
unfolding partial_iv
partial_iv-some n = some-without_zeros (five_bytes n) (omega arith)

pub partial_iv-short : (n : ℕ) → length (partial_iv n) ≤ 5
unfolding partial_iv
partial_iv-short n = length-without_zeros (five_bytes n)

pub has_leading_zero-partial_iv : (n : ℕ) → has_leading_zero (partial_iv n) ≡ false
unfolding partial_iv
has_leading_zero-partial_iv n = has_leading_zero-without_zeros (five_bytes n)

number_in-five : (n : ℕ) → number_in (five_bytes n) ≡ n
number_in-five n =
    let e1 : 256 * (n / 2 ^ 8) + n % 256 ≡ n = omega arith in
    let e2 : 256 * (n / 2 ^ 16) + n / 2 ^ 8 % 256 ≡ n / 2 ^ 8 = omega arith in
    let e3 : 256 * (n / 2 ^ 24) + n / 2 ^ 16 % 256 ≡ n / 2 ^ 16 = omega arith in
    let e4 : 256 * (n / 2 ^ 32) + n / 2 ^ 24 % 256 ≡ n / 2 ^ 24 = omega arith in
    omega arith

pub number_in-partial_iv : (n : ℕ) → number_in (partial_iv n) ≡ n
unfolding partial_iv
number_in-partial_iv n = number_in-without_zeros (five_bytes n) ∙ number_in-five n

-- no two numbers have one Partial IV
pub one_number : (m n : ℕ) → partial_iv m ≡ partial_iv n → m ≡ n
one_number m n e = sym (number_in-partial_iv m) ∙ ap number_in e ∙ number_in-partial_iv n

-- ---- from the bytes to their number

five-number_in : (a b c d e : ℕ) → a < 256 → b < 256 → c < 256 → d < 256 → e < 256 → five_bytes (number_in (a ∷ b ∷ c ∷ d ∷ e ∷ [])) ≡ a ∷ b ∷ c ∷ d ∷ e ∷ []
five-number_in a b c d e pa pb pc pd pe =
    let n : ℕ = number_in (a ∷ b ∷ c ∷ d ∷ e ∷ []) in
    let e1 : number_in (a ∷ b ∷ c ∷ d ∷ e ∷ []) / 2 ^ 32 ≡ a = omega arith in
    let e2 : number_in (a ∷ b ∷ c ∷ d ∷ e ∷ []) / 2 ^ 24 % 256 ≡ b = omega arith in
    let e3 : number_in (a ∷ b ∷ c ∷ d ∷ e ∷ []) / 2 ^ 16 % 256 ≡ c = omega arith in
    let e4 : number_in (a ∷ b ∷ c ∷ d ∷ e ∷ []) / 2 ^ 8 % 256 ≡ d = omega arith in
    let e5 : number_in (a ∷ b ∷ c ∷ d ∷ e ∷ []) % 256 ≡ e = omega arith in
    cc

-- bytes without a leading zero
pub record IsShortest (bytes : List ℕ) : Type 0 where
  pub are_bytes : AreBytes bytes
  pub some : 0 < length bytes
  pub short : length bytes ≤ 5
  pub shortest : has_leading_zero bytes ≡ false

pub partial_iv-number_in : (bytes : List ℕ) → IsShortest bytes → partial_iv (number_in bytes) ≡ bytes
unfolding partial_iv
partial_iv-number_in [] h = absurd (omega arith)
partial_iv-number_in (e ∷ []) h = ap without_zeros (five-number_in 0 0 0 0 e (omega arith) (omega arith) (omega arith) (omega arith) (h.are_bytes 0))
partial_iv-number_in (d ∷ e ∷ []) h =
    ap without_zeros (five-number_in 0 0 0 d e (omega arith) (omega arith) (omega arith) (h.are_bytes 0) (h.are_bytes 1)) ∙ rw (h.shortest) refl
partial_iv-number_in (c ∷ d ∷ e ∷ []) h =
    ap without_zeros (five-number_in 0 0 c d e (omega arith) (omega arith) (h.are_bytes 0) (h.are_bytes 1) (h.are_bytes 2)) ∙ rw (h.shortest) refl
partial_iv-number_in (b ∷ c ∷ d ∷ e ∷ []) h =
    ap without_zeros (five-number_in 0 b c d e (omega arith) (h.are_bytes 0) (h.are_bytes 1) (h.are_bytes 2) (h.are_bytes 3)) ∙ rw (h.shortest) refl
partial_iv-number_in (a ∷ b ∷ c ∷ d ∷ e ∷ []) h =
    ap without_zeros (five-number_in a b c d e (h.are_bytes 0) (h.are_bytes 1) (h.are_bytes 2) (h.are_bytes 3) (h.are_bytes 4)) ∙ rw (h.shortest) refl
partial_iv-number_in (a ∷ b ∷ c ∷ d ∷ e ∷ f ∷ bytes) h = absurd (omega (arith, h.short))

pub number_in-fits : (bytes : List ℕ) → IsShortest bytes → number_in bytes ≤ greatest_number
number_in-fits [] h = absurd (omega arith)
number_in-fits (e ∷ []) h = omega (arith, h.are_bytes 0)
number_in-fits (d ∷ e ∷ []) h = omega (arith, h.are_bytes 0, h.are_bytes 1)
number_in-fits (c ∷ d ∷ e ∷ []) h = omega (arith, h.are_bytes 0, h.are_bytes 1, h.are_bytes 2)
number_in-fits (b ∷ c ∷ d ∷ e ∷ []) h = omega (arith, h.are_bytes 0, h.are_bytes 1, h.are_bytes 2, h.are_bytes 3)
number_in-fits (a ∷ b ∷ c ∷ d ∷ e ∷ []) h = omega (arith, h.are_bytes 0, h.are_bytes 1, h.are_bytes 2, h.are_bytes 3, h.are_bytes 4)
number_in-fits (a ∷ b ∷ c ∷ d ∷ e ∷ f ∷ bytes) h = absurd (omega (arith, h.short))
