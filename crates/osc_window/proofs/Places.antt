-- A number in its place in a rising list.
use Rattle.std.proofs.Common.{◌≡◌, ◌≢◌, ℕ, ◌<◌, ◌≤◌, Bool, true, false, cond, List, [], ◌∷◌, filter, nat_lt, refl, sym, ◌⊎◌, inl, inr, arith}
use Rattle.std.specs.List.{All, Contains}
use Rattle.std.proofs.lemmas.Bool.{ltb-true, ltb-false}
use Rattle.std.proofs.lemmas.List.Elements.{All-head, All-tail, All-weaker, All-filter, All-cons}
use Rattle.osc_window.specs.{IsRising, put}
use Rattle.osc_window.proofs.Lists.{none, first, later, first_or_later, all_from, all_at}

pub put_here : (n : ℕ) (xs : List ℕ) → Contains (put n xs) n
put_here n [] = first n []
put_here n (m ∷ ms) = by (nat_lt m n) (put_here n ms)
  where
    by : (b : Bool) → Contains (put n ms) n → Contains (cond b (m ∷ put n ms) (n ∷ m ∷ ms)) n
    by true up = later m (put n ms) n up
    by false up = first n (m ∷ ms)

pub put_there : (n : ℕ) (xs : List ℕ) (k : ℕ) → Contains xs k → Contains (put n xs) k
put_there n [] k has = absurd (none k has)
put_there n (m ∷ ms) k has = by (nat_lt m n) (first_or_later m ms k has) (put_there n ms k)
  where
    by : (b : Bool) → (m ≡ k) ⊎ Contains ms k → (Contains ms k → Contains (put n ms) k) → Contains (cond b (m ∷ put n ms) (n ∷ m ∷ ms)) k
    by true (inl same) up = rw (← same) (first m (put n ms))
    by true (inr behind) up = later m (put n ms) k (up behind)
    by false at up = later n (m ∷ ms) k has

pub from_put : (n : ℕ) (xs : List ℕ) (k : ℕ) → Contains (put n xs) k → (n ≡ k) ⊎ Contains xs k
from_put n [] k has = first_or_later n [] k has
from_put n (m ∷ ms) k has = by (nat_lt m n) has (from_put n ms k)
  where
    behind : (n ≡ k) ⊎ Contains ms k → (n ≡ k) ⊎ Contains (m ∷ ms) k
    behind (inl same) = inl same
    behind (inr further) = inr (later m ms k further)

    past : (m ≡ k) ⊎ Contains (put n ms) k → (Contains (put n ms) k → (n ≡ k) ⊎ Contains ms k) → (n ≡ k) ⊎ Contains (m ∷ ms) k
    past (inl same) up = inr (rw (← same) (first m ms))
    past (inr at) up = behind (up at)

    by : (b : Bool) → Contains (cond b (m ∷ put n ms) (n ∷ m ∷ ms)) k → (Contains (put n ms) k → (n ≡ k) ⊎ Contains ms k) → (n ≡ k) ⊎ Contains (m ∷ ms) k
    by true at up = past (first_or_later m (put n ms) k at) up
    by false at up = first_or_later n (m ∷ ms) k at

-- what holds of the number and of the members
pub all_put : (P : ℕ → Type 0) (n : ℕ) (xs : List ℕ) → P n → All P xs → All P (put n xs)
all_put P n xs here all = all_from P (put n xs) (λ k has. by k (from_put n xs k has))
  where
    by : (k : ℕ) → (n ≡ k) ⊎ Contains xs k → P k
    by k (inl same) = rw (← same) here
    by k (inr has) = all_at P xs k all has

-- a number that isn't there, in its place: the list rises still
pub put_rising : (n : ℕ) (xs : List ℕ) → IsRising xs → All (λ m. m ≢ n) xs → IsRising (put n xs)
put_rising n [] rising other = (all_from (λ k. n < k) [] (λ k has. absurd (none k has)), tt)
put_rising n (m ∷ ms) rising other = by (nat_lt m n) refl (put_rising n ms rising.1 (All-tail (λ k. k ≢ n) m ms other))
  where
    apart : m ≢ n
    apart = All-head (λ k. k ≢ n) m ms other

    above : n < m → All (λ k. n < k) (m ∷ ms)
    above low = All-cons (λ k. n < k) m ms low (All-weaker (λ k. m < k) (λ k. n < k) (λ k high. omega (arith, low, high)) ms rising.0)

    by : (b : Bool) → nat_lt m n ≡ b → IsRising (put n ms) → IsRising (cond b (m ∷ put n ms) (n ∷ m ∷ ms))
    by true low up = (all_put (λ k. m < k) n ms (ltb-true m n low) rising.0, up)
    by false high up =
        let le : n ≤ m = ltb-false m n high in
        let lt : n < m = grind (arith, le, apart) in
        (above lt, rising)

-- some of them rise too
pub filter_rising : (test : ℕ → Bool) (xs : List ℕ) → IsRising xs → IsRising (filter test xs)
filter_rising test [] rising = tt
filter_rising test (m ∷ ms) rising = by (test m) (filter_rising test ms rising.1)
  where
    by : (b : Bool) → IsRising (filter test ms) → IsRising (cond b (m ∷ filter test ms) (filter test ms))
    by true up = (All-filter test (λ k. m < k) ms rising.0, up)
    by false up = up

-- two that rise and have the same members are one
pub same_rising : (xs ys : List ℕ) → IsRising xs → IsRising ys → ((k : ℕ) → Contains xs k → Contains ys k) → ((k : ℕ) → Contains ys k → Contains xs k) → xs ≡ ys
same_rising [] [] rising rising' there back = refl
same_rising [] (y ∷ ys) rising rising' there back = absurd (none y (back y (first y ys)))
same_rising (x ∷ xs) [] rising rising' there back = absurd (none x (there x (first x xs)))
same_rising (x ∷ xs) (y ∷ ys) rising rising' there back =
    let head : x ≡ y = least (first_or_later y ys x (there x (first x xs))) (first_or_later x xs y (back y (first y ys))) in
    let tail : xs ≡ ys = same_rising xs ys rising.1 rising'.1
    (λ k has. beyond ys y k (all_at (λ j. x < j) xs k rising.0 has) head (first_or_later y ys k (there k (later x xs k has))))
    (λ k has. beyond xs x k (all_at (λ j. y < j) ys k rising'.0 has) (sym head) (first_or_later x xs k (back k (later y ys k has)))) in
    rw (head, tail) refl
  where
    least : (y ≡ x) ⊎ Contains ys x → (x ≡ y) ⊎ Contains xs y → x ≡ y
    least (inl same) above = sym same
    least (inr behind) (inl same) = same
    least (inr behind) (inr behind') =
        let one : y < x = all_at (λ j. y < j) ys x rising'.0 behind in
        let other : x < y = all_at (λ j. x < j) xs y rising.0 behind' in
        absurd (omega (arith, one, other))

    beyond : (zs : List ℕ) (z k : ℕ) {a : ℕ} → a < k → a ≡ z → (z ≡ k) ⊎ Contains zs k → Contains zs k
    beyond zs z k above same (inl wrong) = absurd (omega (arith, above, same, wrong))
    beyond zs z k above same (inr has) = has
