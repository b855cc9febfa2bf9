-- A list of fewer than 256 IDs doesn't have all that are one byte.
use Rattle.std.proofs.Common.{◌≡◌, ℕ, zero, suc, ◌<◌, ◌≤◌, true, false, List, [], ◌∷◌, length, refl, ap, ◌∙◌, inl, inr, arith}
use Rattle.std.specs.List.{AllByRecursion, Contains, IsDistinct, list_any}
use Rattle.std.specs.Str.{bytes_eq}
use Rattle.std.proofs.lemmas.Bool.{or_cases, false_from_ne_true}
use Rattle.std.proofs.lemmas.Cmp.{nat_list_eq_equiv}
use Rattle.std.proofs.lemmas.Map.Made.{length-le_from_is_member, is_member-Decides}
use Rattle.std.proofs.lemmas.Slice.Eq.{bytes_eq-Decides}

-- the lists of one number less than this one
abbrev ones : ℕ → List (List ℕ)
ones zero = []
ones (suc n) = (n ∷ []) ∷ ones n

length-ones : (n : ℕ) → length (ones n) ≡ n
length-ones zero = refl
length-ones (suc n) = ap suc (length-ones n)

-- what is among them is one
among_ones : (n : ℕ) (q : List ℕ) → list_any (bytes_eq q) (ones n) ≡ true → (k : ℕ) × (k < n) × (q ≡ k ∷ [])
among_ones zero q found = cc
among_ones (suc n) q found =
    elim (or_cases (bytes_eq q (n ∷ [])) (list_any (bytes_eq q) (ones n)) found) [
      | inl same ↦ (n, omega arith, (bytes_eq-Decides q (n ∷ [])).0 same)
      | inr below ↦ let lower : (k : ℕ) × (k < n) × (q ≡ k ∷ []) = among_ones n q below in (lower.0, omega (arith, lower.1), lower.2)
    ]

-- and another one isn't among them
above_ones : (m n : ℕ) → n ≤ m → AllByRecursion (λ q. bytes_eq (m ∷ []) q ≡ false) (ones n)
above_ones m zero above = tt
above_ones m (suc n) above = (false_from_ne_true (bytes_eq (m ∷ []) (n ∷ [])) other, above_ones m n (omega arith))
  where
    other : bytes_eq (m ∷ []) (n ∷ []) ≡ true → ⊥
    other same = let lists : m ∷ [] ≡ n ∷ [] = (bytes_eq-Decides (m ∷ []) (n ∷ [])).0 same in let numbers : m ≡ n = cc in omega arith

distinct_ones : (n : ℕ) → IsDistinct bytes_eq (ones n)
unfolding IsDistinct
distinct_ones zero = tt
distinct_ones (suc n) = (above_ones n n (omega arith), distinct_ones n)

pub crowded : (n : ℕ) (taken : List (List ℕ)) → ((k : ℕ) → k < n → Contains taken (k ∷ [])) → n ≤ length taken
crowded n taken all = omega (arith, length-ones n, length-le_from_is_member nat_list_eq_equiv (ones n) taken (distinct_ones n) member)
  where
    member : (q : List ℕ) → list_any (bytes_eq q) (ones n) ≡ true → list_any (bytes_eq q) taken ≡ true
    member q found =
        let one = among_ones n q found in
        let there : list_any (bytes_eq (one.0 ∷ [])) taken ≡ true = (is_member-Decides bytes_eq-Decides taken (one.0 ∷ [])).1 (all one.0 one.1) in
        ap (λ p. list_any (bytes_eq p) taken) one.2 ∙ there
