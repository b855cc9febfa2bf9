-- Members of lists, and tests of them.
use Rattle.std.proofs.Common.{◌≡◌, Bool, true, false, cond, List, [], ◌∷◌, ◌<◌, filter, refl, sym, ap, ◌∙◌, ◌⊎◌, inl, inr, arith}
use Rattle.std.specs.List.{All, Contains, list_all}
use Rattle.std.proofs.lemmas.List.Elements.{All-contains, All-contains_itself, All-weaker, Contains-append_left, Contains-append_right, Contains-append_cases, Contains-push, Contains-push_cases}
use Rattle.std.proofs.lemmas.List.Sums.{AllPass-from_list_all, list_all-from_AllPass}

pub none : {X : Type 0} (x : X) → Contains [] x → ⊥
none x has = let at : has.0 < 0 = has.1 in omega arith

pub first : {X : Type 0} (x : X) (xs : List X) → Contains (x ∷ xs) x
first x xs = Contains-append_left (x ∷ []) xs x (Contains-push [] x)

pub later : {X : Type 0} (x : X) (xs : List X) (y : X) → Contains xs y → Contains (x ∷ xs) y
later x xs y has = Contains-append_right (x ∷ []) xs y has

pub first_or_later : {X : Type 0} (x : X) (xs : List X) (y : X) → Contains (x ∷ xs) y → (x ≡ y) ⊎ Contains xs y
first_or_later x xs y has = by (Contains-append_cases (x ∷ []) xs y has)
  where
    alone : Contains [] y ⊎ (x ≡ y) → (x ≡ y) ⊎ Contains xs y
    alone (inl wrong) = absurd (none y wrong)
    alone (inr same) = inl same

    by : Contains (x ∷ []) y ⊎ Contains xs y → (x ≡ y) ⊎ Contains xs y
    by (inl at) = alone (Contains-push_cases [] x y at)
    by (inr behind) = inr behind

-- what holds of each member
pub all_from : {X : Type 0} (P : X → Type 0) (xs : List X) → ((x : X) → Contains xs x → P x) → All P xs
all_from P xs each = All-weaker (Contains xs) P each xs (All-contains_itself xs)

pub all_at : {X : Type 0} (P : X → Type 0) (xs : List X) (x : X) → All P xs → Contains xs x → P x
all_at P xs x all has = All-contains P xs x all has

-- a test of all, and what it tests
pub all_from_test : {X : Type 0} (P : X → Type 0) (test : X → Bool) → ((x : X) → test x ≡ true → P x) → (xs : List X) → list_all test xs ≡ true → All P xs
all_from_test P test says xs passes = All-weaker (λ x. test x ≡ true) P says xs (AllPass-from_list_all test xs passes)

pub test_from_all : {X : Type 0} (P : X → Type 0) (test : X → Bool) → ((x : X) → P x → test x ≡ true) → (xs : List X) → All P xs → list_all test xs ≡ true
test_from_all P test says xs all = list_all-from_AllPass test xs (All-weaker P (λ x. test x ≡ true) says xs all)

-- what a filter keeps
pub from_filter : {X : Type 0} (test : X → Bool) (xs : List X) (y : X) → Contains (filter test xs) y → Contains xs y × (test y ≡ true)
from_filter test [] y has = absurd (none y has)
from_filter {X} test (x ∷ xs) y has = by (test x) refl has (from_filter test xs y)
  where
    rest : Contains xs y × (test y ≡ true) → Contains (x ∷ xs) y × (test y ≡ true)
    rest both = (later x xs y both.0, both.1)

    here : test x ≡ true → (x ≡ y) ⊎ Contains (filter test xs) y → (Contains (filter test xs) y → Contains xs y × (test y ≡ true)) → Contains (x ∷ xs) y × (test y ≡ true)
    here kept (inl same) up = (rw (← same) (first x xs), rw (← same) kept)
    here kept (inr behind) up = rest (up behind)

    by : (b : Bool) → test x ≡ b → Contains (cond b (x ∷ filter test xs) (filter test xs)) y → (Contains (filter test xs) y → Contains xs y × (test y ≡ true)) → Contains (x ∷ xs) y × (test y ≡ true)
    by true kept at up = here kept (first_or_later x (filter test xs) y at) up
    by false gone at up = rest (up at)

pub to_filter : {X : Type 0} (test : X → Bool) (xs : List X) (y : X) → Contains xs y → test y ≡ true → Contains (filter test xs) y
to_filter test [] y has passes = has
to_filter {X} test (x ∷ xs) y has passes = by (test x) refl (first_or_later x xs y has) (λ behind. to_filter test xs y behind passes)
  where
    by : (b : Bool) → test x ≡ b → (x ≡ y) ⊎ Contains xs y → (Contains xs y → Contains (filter test xs) y) → Contains (cond b (x ∷ filter test xs) (filter test xs)) y
    by true kept (inl same) up = rw (← same) (first x (filter test xs))
    by true kept (inr behind) up = later x (filter test xs) y (up behind)
    by false gone (inl same) up = let wrong : true ≡ false = sym passes ∙ ap test (sym same) ∙ gone in absurd (cc)
    by false gone (inr behind) up = up behind
