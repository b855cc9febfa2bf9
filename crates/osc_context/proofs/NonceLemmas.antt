-- Partial IVs and nonces: their lengths, and that the numbers and IDs can be read back.
use Rattle.std.proofs.Common.{◌≡◌, ℕ, suc, ◌+◌, ◌-◌, ◌*◌, ◌/◌, ◌%◌, ◌^◌, ◌<◌, ◌≤◌, true, false, cond, eqb, List, [], ◌∷◌, ◌++◌, length, replicate, bit_xor, refl, sym, ap, ◌∙◌, arith, eqb-true, length-append}
use Rattle.std.specs.Simd.Lanes.{zip2}
use Rattle.std.proofs.lemmas.List.{length-replicate}
use borrow.Rule.Slice.PartMut.{put_mid}
use Rattle.osc_context.specs.{five_bytes, without_zeros, partial_iv, padded, nonce}
use Rattle.osc_context.proofs.ListLemmas.{parts_of_append, xor_cancels}

-- ---- without leading zeros

pub length-without_zeros : (bytes : List ℕ) → length (without_zeros bytes) ≤ length bytes
length-without_zeros [] = omega arith
length-without_zeros (b ∷ []) = omega arith
length-without_zeros (b ∷ c ∷ bytes) =
    let h : length (without_zeros (c ∷ bytes)) ≤ length (c ∷ bytes) = length-without_zeros (c ∷ bytes) in
    elim (eqb b 0) as (λ t. length (cond t (without_zeros (c ∷ bytes)) (b ∷ c ∷ bytes)) ≤ length (b ∷ c ∷ bytes)) [ true ↦ omega arith | false ↦ omega arith ]

pub some-without_zeros : (bytes : List ℕ) → 0 < length bytes → 0 < length (without_zeros bytes)
some-without_zeros [] some = some
some-without_zeros (b ∷ []) some = omega arith
some-without_zeros (b ∷ c ∷ bytes) some =
    let h : 0 < length (without_zeros (c ∷ bytes)) = some-without_zeros (c ∷ bytes) (omega arith) in
    elim (eqb b 0) as (λ t. 0 < length (cond t (without_zeros (c ∷ bytes)) (b ∷ c ∷ bytes))) [ true ↦ h | false ↦ omega arith ]

padded_once : (b : ℕ) (rest short : List ℕ) → length short ≤ length rest → padded (length rest) short ≡ rest → padded (suc (length rest)) (cond (eqb b 0) short (b ∷ rest)) ≡ b ∷ rest
padded_once b rest short h before =
    let more : suc (length rest) - length short ≡ suc (length rest - length short) = omega arith in
    let none : suc (length rest) - suc (length rest) ≡ 0 = omega arith in
    (elim (eqb b 0) as (λ t. eqb b 0 ≡ t → padded (suc (length rest)) (cond t short (b ∷ rest)) ≡ b ∷ rest) [
      | true ↦ λ zero_first. ap (λ n. replicate n 0 ++ short) more
          ∙ ap (λ l. 0 ∷ l) before
          ∙ ap (λ first. first ∷ rest) (sym (eqb-true b 0 zero_first))
      | false ↦ λ other_first. ap (λ n. replicate n 0 ++ (b ∷ rest)) none
    ]) refl

-- padding puts the zeros back
pub padded-without_zeros : (bytes : List ℕ) → padded (length bytes) (without_zeros bytes) ≡ bytes
padded-without_zeros [] = refl
padded-without_zeros (b ∷ []) = refl
padded-without_zeros (b ∷ c ∷ bytes) = padded_once b (c ∷ bytes) (without_zeros (c ∷ bytes)) (length-without_zeros (c ∷ bytes)) (padded-without_zeros (c ∷ bytes))

-- ---- Partial IVs

pub partial_iv-some : (n : ℕ) → 0 < length (partial_iv n)
unfolding partial_iv
partial_iv-some n = some-without_zeros (five_bytes n) (omega arith)

pub partial_iv-short : (n : ℕ) → length (partial_iv n) ≤ 5
unfolding partial_iv
partial_iv-short n = length-without_zeros (five_bytes n)

pub padded-partial_iv : (n : ℕ) → padded 5 (partial_iv n) ≡ five_bytes n
unfolding partial_iv
padded-partial_iv n = padded-without_zeros (five_bytes n)

-- a number from its bytes, the most significant first
number_of : ℕ → ℕ → ℕ → ℕ → ℕ → ℕ
number_of a b c d e = 256 * (256 * (256 * (256 * a + b) + c) + d) + e

number_of_bytes : (n : ℕ) → number_of (n / 2 ^ 32) (n / 2 ^ 24 % 256) (n / 2 ^ 16 % 256) (n / 2 ^ 8 % 256) (n % 256) ≡ n
unfolding number_of
number_of_bytes n =
    let e1 : 256 * (n / 2 ^ 8) + n % 256 ≡ n = omega arith in
    let e2 : 256 * (n / 2 ^ 16) + n / 2 ^ 8 % 256 ≡ n / 2 ^ 8 = omega arith in
    let e3 : 256 * (n / 2 ^ 24) + n / 2 ^ 16 % 256 ≡ n / 2 ^ 16 = omega arith in
    let e4 : 256 * (n / 2 ^ 32) + n / 2 ^ 24 % 256 ≡ n / 2 ^ 24 = omega arith in
    omega arith

pub one_number : (m n : ℕ) → five_bytes m ≡ five_bytes n → m ≡ n
one_number m n e =
    let e1 : m / 2 ^ 32 ≡ n / 2 ^ 32 = cc in
    let e2 : m / 2 ^ 24 % 256 ≡ n / 2 ^ 24 % 256 = cc in
    let e3 : m / 2 ^ 16 % 256 ≡ n / 2 ^ 16 % 256 = cc in
    let e4 : m / 2 ^ 8 % 256 ≡ n / 2 ^ 8 % 256 = cc in
    let e5 : m % 256 ≡ n % 256 = cc in
    let one = number_of_bytes m in
    let other = number_of_bytes n in
    sym one
    ∙ ap (λ x. number_of x (m / 2 ^ 24 % 256) (m / 2 ^ 16 % 256) (m / 2 ^ 8 % 256) (m % 256)) e1
    ∙ ap (λ x. number_of (n / 2 ^ 32) x (m / 2 ^ 16 % 256) (m / 2 ^ 8 % 256) (m % 256)) e2
    ∙ ap (λ x. number_of (n / 2 ^ 32) (n / 2 ^ 24 % 256) x (m / 2 ^ 8 % 256) (m % 256)) e3
    ∙ ap (λ x. number_of (n / 2 ^ 32) (n / 2 ^ 24 % 256) (n / 2 ^ 16 % 256) x (m % 256)) e4
    ∙ ap (λ x. number_of (n / 2 ^ 32) (n / 2 ^ 24 % 256) (n / 2 ^ 16 % 256) (n / 2 ^ 8 % 256) x) e5
    ∙ other

pub one_partial_iv_of : (m n : ℕ) → partial_iv m ≡ partial_iv n → m ≡ n
one_partial_iv_of m n e = one_number m n (sym (padded-partial_iv m) ∙ ap (padded 5) e ∙ padded-partial_iv n)

-- ---- nonces

-- what is xored with the common IV
abbrev pub plain : List ℕ → ℕ → List ℕ
plain id n = length id ∷ padded 7 id ++ five_bytes n

pub nonce_is : (iv id : List ℕ) (n : ℕ) → nonce iv id n ≡ zip2 bit_xor (plain id n) iv
unfolding nonce
nonce_is iv id n = ap (λ last. zip2 bit_xor (length id ∷ padded 7 id ++ last) iv) (padded-partial_iv n)

length-padded : (size : ℕ) (bytes : List ℕ) → length bytes ≤ size → length (padded size bytes) ≡ size
length-padded size bytes h = length-append (replicate (size - length bytes) 0) bytes ∙ omega (arith, length-replicate {A = ℕ} (size - length bytes) 0)

length-plain : (id : List ℕ) (n : ℕ) → length id ≤ 7 → length (plain id n) ≡ 13
length-plain id n h =
    let joined : length (padded 7 id ++ five_bytes n) ≡ length (padded 7 id) + 5 = length-append (padded 7 id) (five_bytes n) in
    omega (arith, length-padded 7 id h)

one_plain : (a b : List ℕ) (m n : ℕ) → length a ≤ 7 → length b ≤ 7 → plain a m ≡ plain b n → (a ≡ b) × (m ≡ n)
one_plain a b m n ha hb e =
    let long : length a ≡ length b = cc in
    let rest : padded 7 a ++ five_bytes m ≡ padded 7 b ++ five_bytes n = cc in
    let parts = parts_of_append (padded 7 a) (padded 7 b) (five_bytes m) (five_bytes n) (length-padded 7 a ha ∙ sym (length-padded 7 b hb)) rest in
    let zeros : length {A = ℕ} (replicate (7 - length a) 0) ≡ length {A = ℕ} (replicate (7 - length b) 0) = ap (λ k. length {A = ℕ} (replicate (7 - k) 0)) long in
    ((parts_of_append (replicate (7 - length a) 0) (replicate (7 - length b) 0) a b zeros parts.0).1, one_number m n parts.1)

pub distinct : (iv a b : List ℕ) (m n : ℕ) → length iv ≡ 13 → length a ≤ 7 → length b ≤ 7 → nonce iv a m ≡ nonce iv b n → (a ≡ b) × (m ≡ n)
distinct iv a b m n long ha hb e =
    let la : length (plain a m) ≤ length iv = omega (arith, length-plain a m ha) in
    let lb : length (plain b n) ≤ length iv = omega (arith, length-plain b n hb) in
    one_plain a b m n ha hb (xor_cancels (plain a m) (plain b n) iv la lb (sym (nonce_is iv a m) ∙ e ∙ nonce_is iv b n))

-- the ID and then five bytes written into zeros
pub written : (id : List ℕ) (a b c d e : ℕ) → length id ≤ 7
    → put_mid 8 5 (put_mid (8 - length id) (8 - (8 - length id)) (length id ∷ 0 ∷ 0 ∷ 0 ∷ 0 ∷ 0 ∷ 0 ∷ 0 ∷ 0 ∷ 0 ∷ 0 ∷ 0 ∷ 0 ∷ []) id) (a ∷ b ∷ c ∷ d ∷ e ∷ [])
    ≡ length id ∷ (replicate (7 - length id) 0 ++ id ++ (a ∷ b ∷ c ∷ d ∷ e ∷ []))
written [] a b c d e h = refl
written (x1 ∷ []) a b c d e h = refl
written (x1 ∷ x2 ∷ []) a b c d e h = refl
written (x1 ∷ x2 ∷ x3 ∷ []) a b c d e h = refl
written (x1 ∷ x2 ∷ x3 ∷ x4 ∷ []) a b c d e h = refl
written (x1 ∷ x2 ∷ x3 ∷ x4 ∷ x5 ∷ []) a b c d e h = refl
written (x1 ∷ x2 ∷ x3 ∷ x4 ∷ x5 ∷ x6 ∷ []) a b c d e h = refl
written (x1 ∷ x2 ∷ x3 ∷ x4 ∷ x5 ∷ x6 ∷ x7 ∷ []) a b c d e h = refl
written (x1 ∷ x2 ∷ x3 ∷ x4 ∷ x5 ∷ x6 ∷ x7 ∷ x8 ∷ id) a b c d e h = absurd (omega arith)
