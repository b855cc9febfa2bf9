-- The algorithm that a last word says.
use Rattle.std.proofs.Common.{◌≡◌, ℕ, zero, suc, true, false, List, [], ◌∷◌, ◌++◌, length, get_or, map, take, codes, Bor, inl, inr, refl, sym, ap, subst, arith, bytes_eq}
use Rattle.std.proofs.lemmas.Bool.{cases_Bool}
use Rattle.std.proofs.lemmas.Slice.Eq.{bytes_eq-Decides}
use Rattle.osc_model.specs.declared.algorithm.Algorithm.{Algorithm}
use Rattle.osc_model.specs.declared.algorithm.Algorithm.TheVariants.{EightByteTag, SixteenByteTag}
use Rattle.osc_script.specs.{SpellsAlgorithm}
use Rattle.osc_script.specs.Inner.Reading.{algorithm_in}

-- ---- what the code finds

pub taken : (words : List (Bor (List ℕ))) (n : ℕ) (d : Bor (List ℕ)) → length words ≡ suc n → bytes_eq (get_or words n d).now (codes "alg=30") ≡ true
    → (map (λ word. word.now) (take n words), SixteenByteTag) ≡ algorithm_in (map (λ word. word.now) words)
unfolding algorithm_in
taken [] n d l e = absurd cc
taken (w ∷ []) zero d l e = rw e refl
taken (w ∷ []) (suc n) d l e = absurd (omega (arith, l))
taken (w ∷ v ∷ words) zero d l e = absurd (omega (arith, l))
taken (w ∷ v ∷ words) (suc n) d l e = ap (λ (found : List (List ℕ) × Algorithm). (w.now ∷ found.0, found.1)) (taken (v ∷ words) n d (omega (arith, l)) e)

pub kept : (words : List (Bor (List ℕ))) (n : ℕ) (d : Bor (List ℕ)) → length words ≡ suc n → bytes_eq (get_or words n d).now (codes "alg=30") ≡ false
    → (map (λ word. word.now) words, EightByteTag) ≡ algorithm_in (map (λ word. word.now) words)
unfolding algorithm_in
kept [] n d l e = absurd cc
kept (w ∷ []) zero d l e = rw e refl
kept (w ∷ []) (suc n) d l e = absurd (omega (arith, l))
kept (w ∷ v ∷ words) zero d l e = absurd (omega (arith, l))
kept (w ∷ v ∷ words) (suc n) d l e = ap (λ (found : List (List ℕ) × Algorithm). (w.now ∷ found.0, found.1)) (kept (v ∷ words) n d (omega (arith, l)) e)

-- ---- what it spells

spelled : (words : List (List ℕ)) → (last : List (List ℕ)) × (words ≡ (algorithm_in words).0 ++ last) × SpellsAlgorithm last (algorithm_in words).1
unfolding algorithm_in
spelled [] = ([], refl, refl)
spelled (word ∷ []) =
    elim (cases_Bool (bytes_eq word (codes "alg=30"))) [
      | inl same ↦ rw same (word ∷ [], refl, ap (λ (w : List ℕ). w ∷ []) ((bytes_eq-Decides word (codes "alg=30")).0 same))
      | inr not_ ↦ rw not_ ([], refl, refl)
    ]
spelled (word ∷ next ∷ words) =
    let s = spelled (next ∷ words) in
    (s.0, ap (λ (ws : List (List ℕ)). word ∷ ws) s.1, s.2)

pub algorithm_found : (words before : List (List ℕ)) (alg : Algorithm) → (before, alg) ≡ algorithm_in words → (last : List (List ℕ)) × (words ≡ before ++ last) × SpellsAlgorithm last alg
algorithm_found words before alg is =
    subst (λ (found : List (List ℕ) × Algorithm). (last : List (List ℕ)) × (words ≡ found.0 ++ last) × SpellsAlgorithm last found.1) (sym is) (spelled words)

-- the word is taken from after any others
pub algorithm_last : (words : List (List ℕ)) → algorithm_in (words ++ codes "alg=30" ∷ []) ≡ (words, SixteenByteTag)
unfolding algorithm_in
algorithm_last [] = refl
algorithm_last (word ∷ []) = refl
algorithm_last (word ∷ next ∷ words) = ap (λ (found : List (List ℕ) × Algorithm). (word ∷ found.0, found.1)) (algorithm_last (next ∷ words))
