-- What is true of each of a list whose members are looked at one by one.
use Rattle.std.proofs.Common.{◌≡◌, ◌<◌, ◌≤◌, ◌+◌, ◌∙◌, ⊎_elim, ap, sym, subst, refl, ℕ, List, length, get_or, Some, arith}
use Rattle.std.specs.Prelude.{slice_get}
use Rattle.std.proofs.lemmas.Bool.{cases_lt}
use Rattle.std.proofs.lemmas.Option.{slice_get_read, slice_get_within}

-- those before this one
abbrev pub AllBelow : {A : Type 0} → (A → Type 0) → ℕ → List A → Type 0
AllBelow {A} P index xs = (number : ℕ) (x : A) → number < index → slice_get xs number ≡ Some x → P x

pub one_further : {A : Type 0} (P : A → Type 0) (xs : List A) (index : ℕ) (here : A) → index < length xs → here ≡ get_or xs index here → P here → AllBelow P index xs
    → AllBelow P (index + 1) xs
one_further P xs index here within is it before number x below there =
    ⊎_elim
    (λ (earlier : number < index). before number x earlier there)
    (λ (behind : index ≤ number).
    let now : number ≡ index = omega (arith, behind, below) in
    let got : slice_get xs index ≡ Some here = slice_get_read xs (length xs) index here refl within is in
    let same : Some here ≡ Some x = sym got ∙ ap (λ (n : ℕ). slice_get xs n) (sym now) ∙ there in
    let one : here ≡ x = cc in
    subst P one it)
    (cases_lt number index)

pub all_looked_at : {A : Type 0} (P : A → Type 0) (xs : List A) (index : ℕ) → length xs ≤ index → AllBelow P index xs → (number : ℕ) (x : A) → slice_get xs number ≡ Some x → P x
all_looked_at P xs index past before number x there = before number x (omega (arith, past, slice_get_within xs number x there)) there
