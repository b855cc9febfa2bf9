-- The first four bytes as a number, which compares as the bytes do.
use Rattle.std.proofs.Common.{◌≡◌, ℕ, ◌+◌, ◌*◌, ◌<◌, ◌≤◌, List, [], ◌∷◌, refl, sym, ap, ◌∙◌, arith, inl, inr}
use Rattle.std.specs.Ordering.{nat_cmp, ordering_then}
use Rattle.std.specs.Cmp.{nat_cmp_is}
use Rattle.std.specs.Cmp.Lexicographic.{slice_cmp}
use Rattle.std.specs.declared.cmp.Ordering.{Ordering}
use Rattle.std.specs.declared.cmp.Ordering.TheVariants.{Less, Equal}
use Rattle.std.proofs.lemmas.Bool.{cases_lt, cases_eq}
use Rattle.std.proofs.Math.Nat.{mul-le-mul_left}
use Rattle.osc_cbor.specs.Inner.Notes.{first_four}
use Rattle.osc_cbor.proofs.Steps.{AreBytes, AreBytes-rest}

-- of a list's first bytes a number below m that compares as they do
record Weighs (f : List ℕ → ℕ) (m : ℕ) : Type 0 where
  none : f [] ≡ 0
  below : (x : List ℕ) → AreBytes x → f x < m
  less : (x y : List ℕ) → AreBytes x → AreBytes y → f x < f y → slice_cmp nat_cmp x y ≡ Less

-- one byte more in front
abbrev one_more : (List ℕ → ℕ) → ℕ → List ℕ → ℕ
one_more f m [] = 0
one_more f m (a ∷ x) = m * a + f x

front_less : (a b : ℕ) (x y : List ℕ) → a < b → slice_cmp nat_cmp (a ∷ x) (b ∷ y) ≡ Less
front_less a b x y lt = ap (λ (r : Ordering). ordering_then r (slice_cmp nat_cmp x y)) (sym (nat_cmp_is a b Less lt))

front_equal : (a b : ℕ) (x y : List ℕ) → a ≡ b → slice_cmp nat_cmp (a ∷ x) (b ∷ y) ≡ slice_cmp nat_cmp x y
front_equal a b x y eq = ap (λ (r : Ordering). ordering_then r (slice_cmp nat_cmp x y)) (sym (nat_cmp_is a b Equal eq))

more_less : (f : List ℕ → ℕ) (m : ℕ) → Weighs f m → (x y : List ℕ) → AreBytes x → AreBytes y → one_more f m x < one_more f m y → slice_cmp nat_cmp x y ≡ Less
more_less f m w x [] fits_x fits_y lt = absurd (omega (arith, lt))
more_less f m w [] (b ∷ y) fits_x fits_y lt = refl
more_less f m w (a ∷ x) (b ∷ y) fits_x fits_y lt =
    elim (cases_lt a b) [
      | inl l ↦ front_less a b x y l
      | inr g ↦ elim (cases_eq a b) [
        | inl eq ↦
            let same : m * a ≡ m * b = ap (λ (n : ℕ). m * n) eq in
            front_equal a b x y eq ∙ w.less x y (AreBytes-rest a x fits_x) (AreBytes-rest b y fits_y) (omega (arith, lt, same))
        | inr other ↦
            let wide : m * (b + 1) ≤ m * a = mul-le-mul_left m (omega (arith, g, other)) in
            let parts : m * (b + 1) ≡ m * b + m = omega arith in
            absurd (omega (arith, lt, wide, parts, w.below y (AreBytes-rest b y fits_y)))
      ]
    ]

more_below : (f : List ℕ → ℕ) (m : ℕ) → Weighs f m → 0 < m → (x : List ℕ) → AreBytes x → one_more f m x < 256 * m
more_below f m w some [] fits = omega (arith, some)
more_below f m w some (a ∷ x) fits =
    let wide : m * a ≤ m * 255 = mul-le-mul_left m (omega (arith, fits 0)) in
    omega (arith, wide, w.below x (AreBytes-rest a x fits))

more : (f : List ℕ → ℕ) (m : ℕ) → Weighs f m → 0 < m → Weighs (one_more f m) (256 * m)
more f m w some = record { none = refl; below = more_below f m w some; less = more_less f m w }

abbrev nothing : List ℕ → ℕ
nothing x = 0

weighs_none : Weighs nothing 1
weighs_none = record { none = refl; below = λ x fits. omega arith; less = λ x y fits_x fits_y lt. absurd (omega (arith, lt)) }

abbrev four : List ℕ → ℕ
four = one_more (one_more (one_more (one_more nothing 1) 256) 65536) 16777216

weighs_four : Weighs four 4294967296
weighs_four = more _ 16777216 (more _ 65536 (more _ 256 (more _ 1 weighs_none (omega arith)) (omega arith)) (omega arith)) (omega arith)

four_is : (x : List ℕ) → first_four x ≡ four x
four_is [] = refl
four_is (a ∷ []) = omega arith
four_is (a ∷ b ∷ []) = omega arith
four_is (a ∷ b ∷ c ∷ []) = omega arith
four_is (a ∷ b ∷ c ∷ d ∷ x) = omega arith

pub prefix_less : (x y : List ℕ) → AreBytes x → AreBytes y → first_four x < first_four y → slice_cmp nat_cmp x y ≡ Less
prefix_less x y fits_x fits_y lt = weighs_four.less x y fits_x fits_y (omega (arith, lt, four_is x, four_is y))
