-- The window, the numbers that make it, and what is fresh.
use Rattle.std.proofs.Common.{◌≡◌, ◌≢◌, ◌↔◌, ℕ, ◌+◌, ◌<◌, ◌≤◌, true, not, ◌&&◌, List, [], ◌∷◌, nat_lt, nat_eq, sym, ◌⊎◌, inl, inr, arith}
use Rattle.std.specs.List.{All, Contains}
use Rattle.std.proofs.lemmas.Bool.{ltb-true, lt-ltb, eqb-false, ne_eqb, and_parts, not-true, not_from_false, and_from, cases_lt}
use Rattle.std.proofs.lemmas.List.Elements.{All-head, All-tail, All-weaker, All-cons, All-nil}
use Rattle.osc_window.specs.{width, IsFresh, is_fresh, IsRising, IsWindowOf, IsWindow, put, is_near, with_accepted, AreAccepted, window_of}
use Rattle.osc_window.proofs.Lists.{none, first, later, first_or_later, all_from, all_at, all_from_test, test_from_all, from_filter, to_filter}
use Rattle.osc_window.proofs.Places.{put_here, put_there, from_put, all_put, put_rising, filter_rising, same_rising}

pub width_some : 0 < width
unfolding width
width_some = omega arith

-- ---- the tests

pub near_all : (others : List ℕ) (m : ℕ) → is_near others m ≡ true → All (λ k. k < m + width) others
near_all others m = all_from_test (λ k. k < m + width) (λ k. nat_lt k (m + width)) (λ k. ltb-true k (m + width)) others

pub near_from : (others : List ℕ) (m : ℕ) → All (λ k. k < m + width) others → is_near others m ≡ true
near_from others m = test_from_all (λ k. k < m + width) (λ k. nat_lt k (m + width)) (λ k. lt-ltb k (m + width)) others

pub fresh_all : (accepted : List ℕ) (n : ℕ) → is_fresh accepted n ≡ true → IsFresh accepted n
fresh_all accepted n = all_from_test (λ m. (m ≢ n) × (m < n + width)) (λ m. not (nat_eq m n) && nat_lt m (n + width)) one accepted
  where
    one : (m : ℕ) → (not (nat_eq m n) && nat_lt m (n + width)) ≡ true → (m ≢ n) × (m < n + width)
    one m both = let parts = and_parts (not (nat_eq m n)) (nat_lt m (n + width)) both in
        (eqb-false m n (not-true (nat_eq m n) parts.0), ltb-true m (n + width) parts.1)

pub fresh_from : (accepted : List ℕ) (n : ℕ) → IsFresh accepted n → is_fresh accepted n ≡ true
fresh_from accepted n = test_from_all (λ m. (m ≢ n) × (m < n + width)) (λ m. not (nat_eq m n) && nat_lt m (n + width)) one accepted
  where
    one : (m : ℕ) → (m ≢ n) × (m < n + width) → (not (nat_eq m n) && nat_lt m (n + width)) ≡ true
    one m both = and_from (not (nat_eq m n)) (nat_lt m (n + width)) (not_from_false (nat_eq m n) (ne_eqb m n both.0)) (lt-ltb m (n + width) both.1)

-- ---- one number more

other_than : (w : List ℕ) (n : ℕ) → IsFresh w n → All (λ m. m ≢ n) w
other_than w n fresh = All-weaker (λ m. (m ≢ n) × (m < n + width)) (λ m. m ≢ n) (λ m both. both.0) w fresh

below_end : (w : List ℕ) (n : ℕ) → IsFresh w n → All (λ m. m < n + width) w
below_end w n fresh = All-weaker (λ m. (m ≢ n) × (m < n + width)) (λ m. m < n + width) (λ m both. both.1) w fresh

-- the members of the window once the number is accepted
pub from_accepted : (w : List ℕ) (n m : ℕ) → Contains (with_accepted w n) m → ((n ≡ m) ⊎ Contains w m) × (n < m + width) × All (λ k. k < m + width) w
from_accepted w n m has =
    let both = from_filter (is_near (put n w)) (put n w) m has in
    let near : All (λ k. k < m + width) (put n w) = near_all (put n w) m both.1 in (
      from_put n w m both.0,
      all_at (λ k. k < m + width) (put n w) n near (put_here n w),
      all_from (λ k. k < m + width) w (λ k at. all_at (λ j. j < m + width) (put n w) k near (put_there n w k at)),
    )

pub to_accepted : (w : List ℕ) (n m : ℕ) → (n ≡ m) ⊎ Contains w m → n < m + width → All (λ k. k < m + width) w → Contains (with_accepted w n) m
to_accepted w n m has low near =
    to_filter (is_near (put n w)) (put n w) m (place has) (near_from (put n w) m (all_put (λ k. k < m + width) n w low near))
  where
    place : (n ≡ m) ⊎ Contains w m → Contains (put n w) m
    place (inl same) = rw (← same) (put_here n w)
    place (inr at) = put_there n w m at

pub accepted_rising : (w : List ℕ) (n : ℕ) → IsRising w → IsFresh w n → IsRising (with_accepted w n)
accepted_rising w n rising fresh = filter_rising (is_near (put n w)) (put n w) (put_rising n w rising (other_than w n fresh))

-- what rises and has its members
pub accepted_is : (w v : List ℕ) (n : ℕ) → IsWindow w → IsFresh w n → IsRising v
    → ((m : ℕ) → Contains v m → ((n ≡ m) ⊎ Contains w m) × (n < m + width) × All (λ k. k < m + width) w)
    → ((m : ℕ) → (n ≡ m) ⊎ Contains w m → n < m + width → Contains v m)
    → v ≡ with_accepted w n
accepted_is w v n window fresh rising into out =
    same_rising v (with_accepted w n) rising (accepted_rising w n window.rising fresh)
    (λ m has. let parts = into m has in to_accepted w n m parts.0 parts.1 parts.2)
    (λ m has. let parts = from_accepted w n m has in out m parts.0 parts.1)

-- ---- windows of histories

-- the greatest of some numbers
greatest : (ns : List ℕ) (n : ℕ) → (g : ℕ) × Contains (n ∷ ns) g × All (λ k. k ≤ g) (n ∷ ns)
greatest [] n = (n, first n [], All-cons (λ k. k ≤ n) n [] (omega arith) (All-nil (λ k. k ≤ n)))
greatest (m ∷ ms) n = by (greatest ms m)
  where
    raise : (g : ℕ) → Contains (m ∷ ms) g → All (λ k. k ≤ g) (m ∷ ms) → (n < g) ⊎ (g ≤ n) → (h : ℕ) × Contains (n ∷ m ∷ ms) h × All (λ k. k ≤ h) (n ∷ m ∷ ms)
    raise g has most (inl low) = (g, later n (m ∷ ms) g has, All-cons (λ k. k ≤ g) n (m ∷ ms) (omega (arith, low)) most)
    raise g has most (inr high) =
        (n, first n (m ∷ ms), All-cons (λ k. k ≤ n) n (m ∷ ms) (omega arith) (All-weaker (λ k. k ≤ g) (λ k. k ≤ n) (λ k le. omega (arith, le, high)) (m ∷ ms) most))

    by : ((g : ℕ) × Contains (m ∷ ms) g × All (λ k. k ≤ g) (m ∷ ms)) → (h : ℕ) × Contains (n ∷ m ∷ ms) h × All (λ k. k ≤ h) (n ∷ m ∷ ms)
    by found = raise found.0 found.1 found.2 (cases_lt n found.0)

greatest_of : (ns : List ℕ) (n : ℕ) → Contains ns n → (g : ℕ) × Contains ns g × All (λ k. k ≤ g) ns
greatest_of [] n has = absurd (none n has)
greatest_of (m ∷ ms) n has = greatest ms m

all_below : (ns : List ℕ) (g m : ℕ) → All (λ k. k ≤ g) ns → g < m → All (λ k. k < m) ns
all_below ns g m most below = All-weaker (λ k. k ≤ g) (λ k. k < m) (λ k le. omega (arith, le, below)) ns most

-- where every number that is near the greatest, and is one of them, is less than the end of n and another than n, all are
all_fresh : (ns : List ℕ) (n : ℕ) → ((m : ℕ) → Contains ns m → All (λ k. k < m + width) ns → (m ≢ n) × (m < n + width)) → IsFresh ns n
all_fresh ns n near = all_from (λ m. (m ≢ n) × (m < n + width)) ns (λ m has. by m has (greatest_of ns m has))
  where
    all_under : (g : ℕ) → Contains ns g → All (λ k. k ≤ g) ns → All (λ k. k < n + width) ns
    all_under g has most =
        let top : g < n + width = (near g has (all_below ns g (g + width) most (omega (arith, width_some)))).1 in all_below ns g (n + width) most top

    by : (m : ℕ) → Contains ns m → ((g : ℕ) × Contains ns g × All (λ k. k ≤ g) ns) → (m ≢ n) × (m < n + width)
    by m has found =
        let under : All (λ k. k < n + width) ns = all_under found.0 found.1 found.2 in
        (λ same. (near m has (rw same under)).0 same, all_at (λ k. k < n + width) ns m under has)

pub window_fresh : (w accepted : List ℕ) (n : ℕ) → IsWindowOf w accepted → IsFresh w n ↔ IsFresh accepted n
window_fresh w accepted n window = (
  (λ fresh. all_fresh accepted n (λ m has near. all_at (λ k. (k ≢ n) × (k < n + width)) w m fresh ((window.members m).1 (has, near)))),
  (λ fresh. all_from (λ k. (k ≢ n) × (k < n + width)) w (λ k has. all_at (λ j. (j ≢ n) × (j < n + width)) accepted k fresh ((window.members k).0 has).0)),
)

pub empty_window_of : IsWindowOf [] []
empty_window_of = record { rising = tt; members = λ m. ((λ has. absurd (none m has)), (λ both. absurd (none m both.0))) }

pub more_window_of : (w accepted : List ℕ) (n : ℕ) → IsWindowOf w accepted → IsFresh accepted n → IsWindowOf (with_accepted w n) (n ∷ accepted)
more_window_of w accepted n window fresh = record {
  rising = accepted_rising w n window.rising ((window_fresh w accepted n window).1 fresh);
  members = λ m. (into m, out m);
}
  where
    stands : (m : ℕ) → (n ≡ m) ⊎ Contains w m → n < m + width → Contains (n ∷ accepted) m × All (λ k. k < m + width) (n ∷ accepted)
    stands m (inl same) low = (
      rw (← same) (first n accepted),
      All-cons (λ k. k < m + width) n accepted low (rw (← same) (below_end accepted n fresh)),
    )
    stands m (inr has) low =
        let among = (window.members m).0 has in (later n accepted m among.0, All-cons (λ k. k < m + width) n accepted low among.1)

    into : (m : ℕ) → Contains (with_accepted w n) m → Contains (n ∷ accepted) m × All (λ k. k < m + width) (n ∷ accepted)
    into m has = let parts = from_accepted w n m has in stands m parts.0 parts.1

    near_here : (m : ℕ) → All (λ k. k < m + width) accepted → All (λ k. k < m + width) w
    near_here m near = all_from (λ k. k < m + width) w (λ k has. all_at (λ j. j < m + width) accepted k near ((window.members k).0 has).0)

    place : (m : ℕ) → (n ≡ m) ⊎ Contains accepted m → All (λ k. k < m + width) accepted → (n ≡ m) ⊎ Contains w m
    place m (inl same) near = inl same
    place m (inr has) near = inr ((window.members m).1 (has, near))

    out : (m : ℕ) → Contains (n ∷ accepted) m × All (λ k. k < m + width) (n ∷ accepted) → Contains (with_accepted w n) m
    out m both =
        let near : All (λ k. k < m + width) accepted = All-tail (λ k. k < m + width) n accepted both.1 in
        to_accepted w n m (place m (first_or_later n accepted m both.0) near) (All-head (λ k. k < m + width) n accepted both.1) (near_here m near)

pub history_window : (accepted : List ℕ) → AreAccepted accepted → IsWindowOf (window_of accepted) accepted
history_window [] done = empty_window_of
history_window (n ∷ earlier) done = more_window_of (window_of earlier) earlier n (history_window earlier done.1) done.0

-- ---- what is fresh afterwards

pub fresh_before : (w : List ℕ) (n m : ℕ) → IsFresh (with_accepted w n) m → IsFresh w m × (m ≢ n)
fresh_before w n m fresh = (
  all_from (λ k. (k ≢ m) × (k < m + width)) w (λ k has. each k (put_there n w k has)),
  λ same. (each n (put_here n w)).0 (sym same),
)
  where
    all : IsFresh (put n w) m
    all = all_fresh (put n w) m (λ k has near. all_at (λ j. (j ≢ m) × (j < m + width)) (with_accepted w n) k fresh (to_filter (is_near (put n w)) (put n w) k has (near_from (put n w) k near)))

    each : (k : ℕ) → Contains (put n w) k → (k ≢ m) × (k < m + width)
    each k has = all_at (λ j. (j ≢ m) × (j < m + width)) (put n w) k all has
