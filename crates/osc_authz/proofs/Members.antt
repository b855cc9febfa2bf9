-- Members of lists.
use Rattle.std.proofs.Common.{◌≡◌, ◌⊎◌, ℕ, Bool, true, false, cond, List, [], ◌∷◌, ◌++◌, map, filter, bytes_eq, refl, sym, ap, ◌∙◌, inl, inr, ⊎_elim}
use Rattle.std.specs.List.{AllByRecursion, IsDistinct}
use Rattle.std.proofs.lemmas.Slice.Eq.{bytes_eq-Decides}
use Rattle.osc_authz.specs.{In}

-- ---- two lists, one after the other

pub in_front : {A : Type 0} (x : A) (xs ys : List A) → In x xs → In x (xs ++ ys)
in_front x [] ys m = absurd m
in_front x (z ∷ xs) ys (inl e) = inl e
in_front x (z ∷ xs) ys (inr m) = inr (in_front x xs ys m)

pub in_back : {A : Type 0} (x : A) (xs ys : List A) → In x ys → In x (xs ++ ys)
in_back x [] ys m = m
in_back x (z ∷ xs) ys m = inr (in_back x xs ys m)

pub in_either : {A : Type 0} (x : A) (xs ys : List A) → In x (xs ++ ys) → In x xs ⊎ In x ys
in_either x [] ys m = inr m
in_either x (z ∷ xs) ys (inl e) = inl (inl e)
in_either x (z ∷ xs) ys (inr m) = ⊎_elim (λ (h : In x xs). inl (inr h)) (λ (h : In x ys). inr h) (in_either x xs ys m)

-- ---- what is made of each

pub mapped_in : {A B : Type 0} (f : A → B) (xs : List A) (x : A) → In x xs → In (f x) (map f xs)
mapped_in f [] x m = absurd m
mapped_in f (y ∷ xs) x (inl e) = inl (ap f e)
mapped_in f (y ∷ xs) x (inr m) = inr (mapped_in f xs x m)

pub in_mapped : {A B : Type 0} (f : A → B) (xs : List A) (y : B) → In y (map f xs) → (x : A) × In x xs × (y ≡ f x)
in_mapped f [] y m = absurd m
in_mapped f (x ∷ xs) y (inl e) = (x, inl refl, e)
in_mapped f (x ∷ xs) y (inr m) = let r = in_mapped f xs y m in (r.0, inr r.1, r.2)

-- ---- those that pass a test

pub in_filter : {A : Type 0} (p : A → Bool) (xs : List A) (x : A) → In x (filter p xs) → In x xs × (p x ≡ true)
in_filter p [] x m = absurd m
in_filter p (y ∷ xs) x m = by (p y) refl m (in_filter p xs x)
  where
    by : (b : Bool) → p y ≡ b → In x (cond b (y ∷ filter p xs) (filter p xs)) → (In x (filter p xs) → In x xs × (p x ≡ true)) → In x (y ∷ xs) × (p x ≡ true)
    by true t (inl e) rest = (inl e, ap p e ∙ t)
    by true t (inr m) rest = let r = rest m in (inr r.0, r.1)
    by false t m rest = let r = rest m in (inr r.0, r.1)

pub filtered_in : {A : Type 0} (p : A → Bool) (xs : List A) (x : A) → In x xs → p x ≡ true → In x (filter p xs)
filtered_in p [] x m t = absurd m
filtered_in p (y ∷ xs) x m t = by (p y) refl m (λ i. filtered_in p xs x i t)
  where
    by : (b : Bool) → p y ≡ b → In x (y ∷ xs) → (In x xs → In x (filter p xs)) → In x (cond b (y ∷ filter p xs) (filter p xs))
    by true k (inl e) rest = inl e
    by true k (inr m) rest = inr (rest m)
    by false k (inl e) rest = let passed : p y ≡ true = ap p (sym e) ∙ t in absurd (cc (passed, k))
    by false k (inr m) rest = rest m

-- ---- texts that stand once

unlike : (a b : List ℕ) → bytes_eq a b ≡ false → a ≡ b → ⊥
unlike a b e same = absurd (cc (e, (bytes_eq-Decides a b).1 same))

each_unlike : {A : Type 0} (f : A → List ℕ) (text : List ℕ) (xs : List A) (x : A) → AllByRecursion (λ y. bytes_eq text y ≡ false) (map f xs) → In x xs → text ≡ f x → ⊥
each_unlike f text [] x all m e = absurd m
each_unlike f text (y ∷ xs) x all (inl s) e = unlike text (f y) all.0 (e ∙ ap f s)
each_unlike f text (y ∷ xs) x all (inr m) e = each_unlike f text xs x all.1 m e

-- where each has a text of its own, those with one text are one
pub one_of_text : {A : Type 0} (f : A → List ℕ) (xs : List A) (a b : A) → IsDistinct bytes_eq (map f xs) → In a xs → In b xs → f a ≡ f b → a ≡ b
unfolding IsDistinct
one_of_text f [] a b distinct m n e = absurd m
one_of_text f (x ∷ xs) a b distinct (inl m) (inl n) e = m ∙ sym n
one_of_text f (x ∷ xs) a b distinct (inl m) (inr n) e = absurd (each_unlike f (f x) xs b distinct.0 n (ap f (sym m) ∙ e))
one_of_text f (x ∷ xs) a b distinct (inr m) (inl n) e = absurd (each_unlike f (f x) xs a distinct.0 m (ap f (sym n) ∙ sym e))
one_of_text f (x ∷ xs) a b distinct (inr m) (inr n) e = one_of_text f xs a b distinct.1 m n e
