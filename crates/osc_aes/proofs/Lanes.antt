-- Vectors lane by lane.
use Rattle.std.proofs.Common.{◌≡◌, ℕ, zero, suc, ◌+◌, ◌-◌, ◌*◌, ◌/◌, ◌<◌, ◌≤◌, ◌∙◌, Bool, true, false, T, ◌&&◌, ◌||◌, cond, ltb, leb, List, [], ◌∷◌, length, map, get_or, refl, ap, subst, inl, inr, arith, w8, Fits, eq-zero-or-pos, slice_index}
use Rattle.std.specs.List.{range_with_len}
use Rattle.std.proofs.lemmas.List.FromFn.{fill_by_all}
use Rattle.std.proofs.lemmas.Simd.{SwzOk, swz_l}
use lib.Lanes.{Each1}
use lib.Ieee.Fits.{and_l, and_r}
use Rattle.osc_aes.specs.Inner.Tower.{IsPlace, looked}

-- what a proof knows of a vector of sixteen bytes
abbrev pub IsBlock : List ℕ → Type 0
IsBlock v = (length v ≡ 16) × Each1 (Fits w8) v

-- ---- a rule that was computed at each byte

abbrev pub all_below : (ℕ → Bool) → ℕ → Bool
all_below p zero = true
all_below p (suc n) = p n && all_below p n

pub every_below : (p : ℕ → Bool) (n : ℕ) → T (all_below p n) → (i : ℕ) → i < n → T (p i)
every_below p zero h i l = absurd (omega arith)
every_below p (suc n) h i l =
    elim (eq-zero-or-pos (n - i)) [
      | inl z ↦ let e : n ≡ i = omega arith in subst (λ x. T (p x)) e (and_l _ _ h)
      | inr g ↦ every_below p n (and_r (p n) _ h) i (omega arith)
    ]

-- a rule of each byte holds of each lane that is made of one
pub each_made : (p : ℕ → Bool) (g : ℕ → ℕ) (v : List ℕ) → Each1 (Fits w8) v → T (all_below (λ x. p (g x)) 256) → Each1 (λ j. T (p j)) (map g v)
each_made p g [] h all = tt
each_made p g (x ∷ xs) h all = (every_below (λ x. p (g x)) 256 all x h.0.fits, each_made p g xs h.1 all)

-- two functions that are equal at each byte
pub map_same : (f g : ℕ → ℕ) (v : List ℕ) → Each1 (Fits w8) v → ((x : ℕ) → x < 256 → f x ≡ g x) → map f v ≡ map g v
map_same f g [] h e = refl
map_same f g (x ∷ xs) h e = ap (λ y. y ∷ map f xs) (e x h.0.fits) ∙ ap (λ l. g x ∷ l) (map_same f g xs h.1 e)

-- ---- look-ups

twice : (a b : Bool) → T (a || b) → T (a || (b && b))
twice true b h = tt
twice false true h = tt
twice false false h = absurd h

ok_from : (i : ℕ) (js : List ℕ) → i + length js ≤ 16 → Each1 IsPlace js → SwzOk w8 16 16 i js
ok_from i [] l h = tt
ok_from i (j ∷ js) l h =
    let at : j ≡ 16 * (i / 16) + j = omega arith in (
      subst (λ k. T (leb 128 j || (ltb j 16 && ltb k 16))) at (twice (leb 128 j) (ltb j 16) h.0),
      ok_from (suc i) js (omega arith) h.1,
    )

pub places_ok : (js : List ℕ) → length js ≡ 16 → Each1 IsPlace js → SwzOk w8 16 16 0 js
places_ok js long h = ok_from 0 js (omega arith) h

looked_from : (table : List ℕ) (i : ℕ) (js : List ℕ) → i + length js ≤ 16 → swz_l w8 16 table i js ≡ map (looked table) js
looked_from table i [] l = refl
looked_from table i (j ∷ js) l =
    let low : i / 16 ≡ 0 = omega arith in
    let at : 16 * (i / 16) + j ≡ j = omega arith in
    ap (λ k. cond (leb 128 j) 0 (get_or table k 0) ∷ swz_l w8 16 table (suc i) js) at
    ∙ ap (λ l. looked table j ∷ l) (looked_from table (suc i) js (omega arith))

pub looked_up : (table js : List ℕ) → length js ≡ 16 → swz_l w8 16 table 0 js ≡ map (looked table) js
looked_up table js long = looked_from table 0 js (omega arith)

-- ---- sixteen lanes by their places

abbrev pub lanes : (ℕ → ℕ) → List ℕ
lanes x = map x (range_with_len 0 16)

pub explicit : (v : List ℕ) → length v ≡ 16 → v ≡ lanes (slice_index v)
explicit v long = fill_by_all (slice_index v) v 16 0 long (λ k below. refl)

pub lane-lt : (v : List ℕ) (i : ℕ) → Each1 (Fits w8) v → slice_index v i < 256
lane-lt [] i h = omega arith
lane-lt (x ∷ xs) zero h = h.0.fits
lane-lt (x ∷ xs) (suc i) h = lane-lt xs i h.1

pub together : (a b c d e f g h : ℕ) (r s : List ℕ) → a ≡ e → b ≡ f → c ≡ g → d ≡ h → r ≡ s → (a ∷ b ∷ c ∷ d ∷ r) ≡ (e ∷ f ∷ g ∷ h ∷ s)
together a b c d e f g h r s ea eb ec ed er = cc
