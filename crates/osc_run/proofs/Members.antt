-- Members of lists with some property, and properties of lists that hold of their ends.
use Rattle.std.proofs.Common.{◌≡◌, ◌<◌, ◌≤◌, ℕ, zero, suc, ◌+◌, ◌-◌, List, [], ◌∷◌, ◌++◌, length, get_or, take, drop, reverse, refl, sym, ap, ◌∙◌, inl, inr, ⊎_elim, subst, arith}
use Rattle.std.proofs.lemmas.List.{reverse-append, reverse-reverse, take_more, take_all, take-append-drop, length-drop}
use Rattle.osc_authz.specs.{In}
use Rattle.osc_run.proofs.Lists.{in_either}

-- ---- members

-- a member of the reversed list is one of the list
in_reverse : {A : Type 0} (xs : List A) (x : A) → In x (reverse xs) → In x xs
in_reverse [] x m = m
in_reverse (y ∷ xs) x m =
    ⊎_elim
    (λ (h : In x (reverse xs)). inr (in_reverse xs x h))
    (λ (h : In x (y ∷ [])). ⊎_elim (λ (e : x ≡ y). inl e) (λ (e : ⊥). absurd e) h)
    (in_either x (reverse xs) (y ∷ []) (subst (In x) (reverse-append (y ∷ []) xs) m))

in_get : {A : Type 0} (xs : List A) (i : ℕ) (d : A) → i < length xs → In (get_or xs i d) xs
in_get [] i d lt = absurd (omega arith)
in_get (x ∷ xs) zero d lt = inl refl
in_get (x ∷ xs) (suc i) d lt = inr (in_get xs i d (omega arith))

-- ---- some member has it

module _ {A : Type 0} (P : A → Type 0) where
  abbrev pub Has : List A → Type 0
  Has xs = (x : A) × In x xs × P x

  pub has_at : (xs : List A) (i : ℕ) (x : A) → i < length xs → x ≡ get_or xs i x → P x → Has xs
  has_at xs i x lt is p = (x, subst (λ (y : A). In y xs) (sym is) (in_get xs i x lt), p)

  -- none of the first, and not the next
  pub none_more : (xs : List A) (i : ℕ) (x : A) → i < length xs → x ≡ get_or xs i x → (Has (take i xs) → ⊥) → (P x → ⊥) → Has (take (i + 1) xs) → ⊥
  none_more xs i x lt is none here r =
      ⊎_elim
      (λ (h : In r.0 (take i xs)). none (r.0, h, r.2))
      (λ (h : In r.0 (get_or xs i x ∷ [])). ⊎_elim (λ (e : r.0 ≡ get_or xs i x). here (subst P (e ∙ sym is) r.2)) (λ (e : ⊥). e) h)
      (in_either r.0 (take i xs) (get_or xs i x ∷ []) (subst (In r.0) (take_more xs i x lt) r.1))

  -- none of the first, which are all
  pub none_of_all : (xs : List A) (i : ℕ) → length xs ≤ i → (Has (take i xs) → ⊥) → Has xs → ⊥
  none_of_all xs i all none r = none (subst Has (sym (take_all i xs all)) r)

  pub has_of_reverse : (xs : List A) → Has (reverse xs) → Has xs
  has_of_reverse xs r = (r.0, in_reverse xs r.0 r.1, r.2)

  pub has_in_reverse : (xs : List A) → Has xs → Has (reverse xs)
  has_in_reverse xs r = (r.0, in_reverse (reverse xs) r.0 (subst (In r.0) (sym (reverse-reverse xs)) r.1), r.2)

-- ---- what holds of a list, and so of each of its ends

module _ {A : Type 0} (P : List A → Type 0) (rest : (x : A) (xs : List A) → P (x ∷ xs) → P xs) where
  end_of : (newer older : List A) → P (newer ++ older) → P older
  end_of [] older p = p
  end_of (x ∷ newer) older p = end_of newer older (rest x (newer ++ older) p)

  pub from_on : (xs : List A) (i : ℕ) → P xs → P (drop i xs)
  from_on xs i p = end_of (take i xs) (drop i xs) (subst P (sym (take-append-drop i xs)) p)

  -- of the first ones, the newest first
  pub up_to : (xs : List A) (i : ℕ) → P (reverse xs) → P (reverse (take i xs))
  up_to xs i p =
      let parts : xs ≡ take i xs ++ drop i xs = sym (take-append-drop i xs) in
      end_of (reverse (drop i xs)) (reverse (take i xs)) (subst P (ap reverse parts ∙ reverse-append (take i xs) (drop i xs)) p)

-- with the next one in front
pub next_first : {A : Type 0} (xs : List A) (i : ℕ) (x : A) → i < length xs → x ≡ get_or xs i x → reverse (take (i + 1) xs) ≡ x ∷ reverse (take i xs)
next_first {A} xs i x lt is =
    ap reverse (take_more xs i x lt)
    ∙ reverse-append (take i xs) (get_or xs i x ∷ [])
    ∙ ap (λ (y : A). y ∷ reverse (take i xs)) (sym is)

-- the next one, and those after it
rest_from : {A : Type 0} (xs : List A) (i : ℕ) (x : A) → i < length xs → x ≡ get_or xs i x → drop i xs ≡ x ∷ drop (suc i) xs
rest_from [] i x lt is = absurd (omega (arith, lt))
rest_from (y ∷ xs) zero x lt is = ap (λ z. z ∷ xs) (sym is)
rest_from (y ∷ xs) (suc i) x lt is = rest_from xs i x (omega (arith, lt)) is

pub next_of_rest : {A : Type 0} (xs : List A) (i : ℕ) (x : A) → i < length xs → x ≡ get_or xs i x → drop i xs ≡ x ∷ drop (i + 1) xs
next_of_rest xs i x lt is =
    let same : suc i ≡ i + 1 = omega arith in
    subst (λ (n : ℕ). drop i xs ≡ x ∷ drop n xs) same (rest_from xs i x lt is)

-- not this one, and none after it
pub none_from : {A : Type 0} (P : A → Type 0) (xs : List A) (i : ℕ) (x : A) → i < length xs → x ≡ get_or xs i x → (Has P (drop (i + 1) xs) → ⊥) → (P x → ⊥) → Has P (drop i xs) → ⊥
none_from P xs i x lt is none here r =
    ⊎_elim
    (λ (e : r.0 ≡ x). here (subst P e r.2))
    (λ (h : In r.0 (drop (i + 1) xs)). none (r.0, h, r.2))
    (subst (In r.0) (next_of_rest xs i x lt is) r.1)

-- those from a place on, as a slice has them
pub slice_from : {A : Type 0} (xs : List A) (n : ℕ) → take (length xs - n) (drop n xs) ≡ drop n xs
slice_from xs n = take_all (length xs - n) (drop n xs) (omega (arith, length-drop n xs))
