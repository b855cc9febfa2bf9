-- Lists round one of their members.
use Rattle.std.proofs.Common.{◌≡◌, Bool, true, false, cond, ◌&&◌, List, [], ◌∷◌, ◌++◌, filter, refl, sym, ap, ap₂, ◌∙◌, ◌⊎◌, inl, inr, Some, None}
use Rattle.std.specs.List.{All, find}
use Rattle.std.proofs.lemmas.List.Elements.{All-head, All-tail}

pub none_round : {X : Type 0} (xs : List X) (e : X) (ys : List X) → [] ≡ xs ++ e ∷ ys → ⊥
none_round [] e ys split = let wrong : [] ≡ e ∷ ys = split in cc
none_round (x ∷ xs) e ys split = let wrong : [] ≡ x ∷ (xs ++ e ∷ ys) = split in cc

-- a member of a list with one more at its end is that one, or a member before
pub snoc_split : {X : Type 0} (ks : List X) (k : X) (xs : List X) (e : X) (ys : List X) → ks ++ k ∷ [] ≡ xs ++ e ∷ ys
    → ((ys ≡ []) × (e ≡ k)) ⊎ ((zs : List X) × (ys ≡ zs ++ k ∷ []) × (ks ≡ xs ++ e ∷ zs))
snoc_split [] k [] e ys split = inl (cc, cc)
snoc_split [] k (x ∷ xs) e ys split = let behind : [] ≡ xs ++ e ∷ ys = cc in absurd (none_round xs e ys behind)
snoc_split (m ∷ ks) k [] e ys split = let at : m ∷ (ks ++ k ∷ []) ≡ e ∷ ys = split in inr (ks, cc, cc)
snoc_split {X} (m ∷ ks) k (x ∷ xs) e ys split =
    let behind : ks ++ k ∷ [] ≡ xs ++ e ∷ ys = cc in
    let same : m ≡ x = cc in
    by same (snoc_split ks k xs e ys behind)
  where
    by : m ≡ x → ((ys ≡ []) × (e ≡ k)) ⊎ ((zs : List X) × (ys ≡ zs ++ k ∷ []) × (ks ≡ xs ++ e ∷ zs))
        → ((ys ≡ []) × (e ≡ k)) ⊎ ((zs : List X) × (ys ≡ zs ++ k ∷ []) × (m ∷ ks ≡ x ∷ (xs ++ e ∷ zs)))
    by same (inl last) = inl last
    by same (inr found) = inr (found.0, found.1, ap₂ (λ a as'. a ∷ as') same found.2)

-- a member that a filter keeps, in the list that it came from
pub filter_split : {X : Type 0} (test : X → Bool) (ks xs : List X) (e : X) (ys : List X) → filter test ks ≡ xs ++ e ∷ ys
    → (before : List X) × (behind : List X) × (ks ≡ before ++ e ∷ behind) × (filter test behind ≡ ys) × (test e ≡ true)
filter_split test [] xs e ys split = absurd (none_round xs e ys split)
filter_split {X} test (k ∷ ks) xs e ys split = by (test k) refl xs split (λ zs at. filter_split test ks zs e ys at)
  where
    more : ((before : List X) × (behind : List X) × (ks ≡ before ++ e ∷ behind) × (filter test behind ≡ ys) × (test e ≡ true))
        → (before : List X) × (behind : List X) × (k ∷ ks ≡ before ++ e ∷ behind) × (filter test behind ≡ ys) × (test e ≡ true)
    more found = (k ∷ found.0, found.1, ap (λ zs. k ∷ zs) found.2, found.3, found.4)

    by : (b : Bool) → test k ≡ b → (zs : List X) → cond b (k ∷ filter test ks) (filter test ks) ≡ zs ++ e ∷ ys
        → ((zs : List X) → filter test ks ≡ zs ++ e ∷ ys → (before : List X) × (behind : List X) × (ks ≡ before ++ e ∷ behind) × (filter test behind ≡ ys) × (test e ≡ true))
        → (before : List X) × (behind : List X) × (k ∷ ks ≡ before ++ e ∷ behind) × (filter test behind ≡ ys) × (test e ≡ true)
    by true kept [] at up =
        let same : k ≡ e = cc in
        let rest : filter test ks ≡ ys = cc in
        ([], ks, ap (λ x. x ∷ ks) same, rest, ap test (sym same) ∙ kept)
    by true kept (z ∷ zs) at up = let rest : filter test ks ≡ zs ++ e ∷ ys = cc in more (up zs rest)
    by false gone zs at up = more (up zs at)

-- the first that passes a test
pub find_split : {X : Type 0} (test : X → Bool) (ks : List X) (e : X) → find test ks ≡ Some e
    → (before : List X) × (behind : List X) × (ks ≡ before ++ e ∷ behind) × (test e ≡ true)
find_split test [] e found = let wrong : None ≡ Some e = found in absurd (cc)
find_split {X} test (k ∷ ks) e found = by (test k) refl found (find_split test ks e)
  where
    by : (b : Bool) → test k ≡ b → cond b (Some k) (find test ks) ≡ Some e → (find test ks ≡ Some e → (before : List X) × (behind : List X) × (ks ≡ before ++ e ∷ behind) × (test e ≡ true))
        → (before : List X) × (behind : List X) × (k ∷ ks ≡ before ++ e ∷ behind) × (test e ≡ true)
    by true passes at up = let same : k ≡ e = cc in ([], ks, ap (λ x. x ∷ ks) same, ap test (sym same) ∙ passes)
    by false fails at up = let later = up at in (k ∷ later.0, later.1, ap (λ xs. k ∷ xs) later.2, later.3)

pub find_at : {X : Type 0} (test : X → Bool) (xs : List X) (e : X) (ys : List X) → All (λ x. test x ≡ false) xs → test e ≡ true → find test (xs ++ e ∷ ys) ≡ Some e
find_at test [] e ys others passes = rw passes refl
find_at test (x ∷ xs) e ys others passes =
    let other : test x ≡ false = All-head (λ y. test y ≡ false) x xs others in
    rw other (find_at test xs e ys (All-tail (λ y. test y ≡ false) x xs others) passes)

-- two filters, of which the first lets pass what the last does
pub filter_both : {X : Type 0} (late early other : X → Bool) → ((x : X) → late x ≡ true → early x ≡ true) → (xs : List X)
    → filter late (filter (λ x. early x && other x) xs) ≡ filter other (filter late xs)
filter_both late early other weaker [] = refl
filter_both late early other weaker (x ∷ xs) = by (late x) (early x) (other x) refl refl refl (filter_both late early other weaker xs)
  where
    by : (l e o : Bool) → late x ≡ l → early x ≡ e → other x ≡ o → filter late (filter (λ y. early y && other y) xs) ≡ filter other (filter late xs)
        → filter late (cond (e && o) (x ∷ filter (λ y. early y && other y) xs) (filter (λ y. early y && other y) xs)) ≡ filter other (cond l (x ∷ filter late xs) (filter late xs))
    by true true true late_is early_is other_is up = rw (late_is, other_is) (ap (λ ys. x ∷ ys) up)
    by true true false late_is early_is other_is up = rw other_is up
    by true false o late_is early_is other_is up = let wrong : true ≡ false = sym (weaker x late_is) ∙ early_is in absurd (cc)
    by false true true late_is early_is other_is up = rw late_is up
    by false true false late_is early_is other_is up = up
    by false false o late_is early_is other_is up = up

pub filter_swap : {X : Type 0} (first second : X → Bool) (xs : List X) → filter first (filter second xs) ≡ filter second (filter first xs)
filter_swap first second [] = refl
filter_swap first second (x ∷ xs) = by (first x) (second x) refl refl (filter_swap first second xs)
  where
    by : (a b : Bool) → first x ≡ a → second x ≡ b → filter first (filter second xs) ≡ filter second (filter first xs)
        → filter first (cond b (x ∷ filter second xs) (filter second xs)) ≡ filter second (cond a (x ∷ filter first xs) (filter first xs))
    by true true a_is b_is up = rw (a_is, b_is) (ap (λ ys. x ∷ ys) up)
    by true false a_is b_is up = rw b_is up
    by false true a_is b_is up = rw a_is up
    by false false a_is b_is up = up
