-- Members of lists, and of what is collected of the steps.
use Rattle.std.proofs.Common.{◌≡◌, ◌≢◌, ◌⊎◌, ℕ, zero, suc, List, [], ◌∷◌, ◌++◌, Option, Some, None, option_to_list, append-nil, refl, sym, ap, ◌∙◌, inl, inr, ⊎_elim, subst}
use Rattle.std.specs.Prelude.{slice_get, slice_set}
use Rattle.std.specs.List.{AllByRecursion}
use Rattle.osc_authz.specs.{In}
use Rattle.osc_run.specs.{Noted, collected}

-- what is in a list after one place was written
pub at_set : {A : Type 0} (xs : List A) (i j : ℕ) (v w : A) → slice_get (slice_set xs i v) j ≡ Some w → ((j ≡ i) × (w ≡ v)) ⊎ ((j ≢ i) × (slice_get xs j ≡ Some w))
at_set [] i j v w e = absurd (cc)
at_set (x ∷ xs) zero zero v w e = inl (refl, cc)
at_set (x ∷ xs) zero (suc j) v w e = inr ((λ h. cc), e)
at_set (x ∷ xs) (suc i) zero v w e = inr ((λ h. cc), e)
at_set (x ∷ xs) (suc i) (suc j) v w e =
    ⊎_elim
    (λ (h : (j ≡ i) × (w ≡ v)). inl (ap suc h.0, h.1))
    (λ (h : (j ≢ i) × (slice_get xs j ≡ Some w)). inr ((λ e. h.0 (cc)), h.1))
    (at_set xs i j v w e)

-- what holds of each member holds of all
pub all_of : {A : Type 0} (P : A → Type 0) (xs : List A) → ((x : A) → In x xs → P x) → AllByRecursion P xs
all_of P [] h = tt
all_of P (x ∷ xs) h = (h x (inl refl), all_of P xs (λ y m. h y (inr m)))

-- ---- two lists, one after the other

in_front : {A : Type 0} (x : A) (xs ys : List A) → In x xs → In x (xs ++ ys)
in_front x [] ys m = absurd m
in_front x (z ∷ xs) ys (inl e) = inl e
in_front x (z ∷ xs) ys (inr m) = inr (in_front x xs ys m)

in_back : {A : Type 0} (x : A) (xs ys : List A) → In x ys → In x (xs ++ ys)
in_back x [] ys m = m
in_back x (z ∷ xs) ys m = inr (in_back x xs ys m)

pub in_either : {A : Type 0} (x : A) (xs ys : List A) → In x (xs ++ ys) → In x xs ⊎ In x ys
in_either x [] ys m = inr m
in_either x (z ∷ xs) ys (inl e) = inl (inl e)
in_either x (z ∷ xs) ys (inr m) = ⊎_elim (λ (h : In x xs). inl (inr h)) (λ (h : In x ys). inr h) (in_either x xs ys m)

-- ---- what is collected of the steps

module _ {A : Type 0} (part : Noted → Option A) where
  pub collected_more : (s : Noted) (notes : List Noted) (x : A) → In x (collected part notes) → In x (collected part (s ∷ notes))
  collected_more s notes x m = in_front x (collected part notes) (option_to_list (part s)) m

  pub collected_first : (s : Noted) (notes : List Noted) (x : A) → part s ≡ Some x → In x (collected part (s ∷ notes))
  collected_first s notes x h = in_back x (collected part notes) (option_to_list (part s)) (subst (λ (o : Option A). In x (option_to_list o)) (sym h) (inl refl))

  pub collected_from : (s : Noted) (notes : List Noted) (x : A) → In s notes → part s ≡ Some x → In x (collected part notes)
  collected_from s [] x m h = absurd m
  collected_from s (r ∷ notes) x (inl e) h = collected_first r notes x (ap part (sym e) ∙ h)
  collected_from s (r ∷ notes) x (inr m) h = collected_more r notes x (collected_from s notes x m h)

  pub collected_none : (s : Noted) (notes : List Noted) (x : A) → part s ≡ None → In x (collected part (s ∷ notes)) → In x (collected part notes)
  collected_none s notes x h m =
      ⊎_elim
      (λ (a : In x (collected part notes)). a)
      (λ (b : In x (option_to_list (part s))). absurd (subst (λ (o : Option A). In x (option_to_list o)) h b))
      (in_either x (collected part notes) (option_to_list (part s)) m)

  pub collected_one : (s : Noted) (notes : List Noted) (x y : A) → part s ≡ Some y → In x (collected part (s ∷ notes)) → (x ≡ y) ⊎ In x (collected part notes)
  collected_one s notes x y h m =
      ⊎_elim
      (λ (a : In x (collected part notes)). inr a)
      (λ (b : In x (option_to_list (part s))). ⊎_elim (λ (e : x ≡ y). inl e) (λ z. absurd z) (subst (λ (o : Option A). In x (option_to_list o)) h b))
      (in_either x (collected part notes) (option_to_list (part s)) m)

  pub collected_same : (s : Noted) (notes : List Noted) → part s ≡ None → collected part (s ∷ notes) ≡ collected part notes
  collected_same s notes h = ap (λ (o : Option A). collected part notes ++ option_to_list o) h ∙ append-nil (collected part notes)

  pub collected_push : (s : Noted) (notes : List Noted) (x : A) → part s ≡ Some x → collected part (s ∷ notes) ≡ collected part notes ++ x ∷ []
  collected_push s notes x h = ap (λ (o : Option A). collected part notes ++ option_to_list o) h
