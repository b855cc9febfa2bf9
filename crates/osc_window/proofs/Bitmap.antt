-- The numbers of the bits that are set.
use Rattle.std.proofs.Common.{◌≡◌, ◌≢◌, ℕ, zero, suc, ◌+◌, ◌-◌, ◌<◌, ◌≤◌, [], refl, sym, ap, ◌∙◌, ◌⊎◌, inl, inr, arith}
use Rattle.std.specs.Int.{bit_at}
use Rattle.std.specs.List.{All, Contains, range_with_len}
use Rattle.std.proofs.lemmas.Bool.{eqb-true, eq-eqb, cases_lt, cases_eq}
use Rattle.std.proofs.lemmas.Nat.Bits.{bit_at-lt}
use Rattle.osc_window.specs.{is_marked, least_below, numbers_of, width, IsFresh, IsRising, IsWindow, with_accepted}
use Rattle.osc_window.proofs.Lists.{none, first, later, first_or_later, all_from, all_at, from_filter, to_filter}
use Rattle.osc_window.proofs.Places.{filter_rising}
use Rattle.osc_window.proofs.Windows.{width_some, accepted_is}

-- ---- ranges

in_range : (a n m : ℕ) → Contains (range_with_len a n) m → (a ≤ m) × (m < a + n)
in_range a zero m has = absurd (none m has)
in_range a (suc n) m has = by (first_or_later a (range_with_len (a + 1) n) m has) (in_range (a + 1) n m)
  where
    by : (a ≡ m) ⊎ Contains (range_with_len (a + 1) n) m → (Contains (range_with_len (a + 1) n) m → (a + 1 ≤ m) × (m < a + 1 + n)) → (a ≤ m) × (m < a + suc n)
    by (inl same) up = (omega (arith, same), omega (arith, same))
    by (inr behind) up = let both : (a + 1 ≤ m) × (m < a + 1 + n) = up behind in (omega (arith, both.0), omega (arith, both.1))

to_range : (a n m : ℕ) → a ≤ m → m < a + n → Contains (range_with_len a n) m
to_range a zero m from below = absurd (omega (arith, from, below))
to_range a (suc n) m from below = by (cases_lt a m) (to_range (a + 1) n m)
  where
    by : (a < m) ⊎ (m ≤ a) → (a + 1 ≤ m → m < a + 1 + n → Contains (range_with_len (a + 1) n) m) → Contains (range_with_len a (suc n)) m
    by (inl above) up = later a (range_with_len (a + 1) n) m (up (omega (arith, above)) (omega (arith, below)))
    by (inr least) up = let same : a ≡ m = omega (arith, from, least) in rw (← same) (first a (range_with_len (a + 1) n))

range_rising : (a n : ℕ) → IsRising (range_with_len a n)
range_rising a zero = tt
range_rising a (suc n) = (
  all_from (λ k. a < k) (range_with_len (a + 1) n) (λ k has. let both : (a + 1 ≤ k) × (k < a + 1 + n) = in_range (a + 1) n k has in omega (arith, both.0)),
  range_rising (a + 1) n,
)

-- ---- the numbers of a bitmap

pub to_numbers : (g bits m : ℕ) → m ≤ g → g < m + width → bit_at bits (g - m) ≡ 1 → Contains (numbers_of g bits) m
unfolding numbers_of
to_numbers g bits m below near set =
    to_filter (is_marked g bits) (range_with_len (least_below g) ((g + 1) - least_below g)) m
    (to_range (least_below g) ((g + 1) - least_below g) m (omega (arith, near)) (omega (arith, below)))
    (eq-eqb (bit_at bits (g - m)) 1 set)

pub from_numbers : (g bits m : ℕ) → Contains (numbers_of g bits) m → (m ≤ g) × (g < m + width) × (bit_at bits (g - m) ≡ 1)
unfolding numbers_of
from_numbers g bits m has =
    let both = from_filter (is_marked g bits) (range_with_len (least_below g) ((g + 1) - least_below g)) m has in
    let inside : (least_below g ≤ m) × (m < least_below g + ((g + 1) - least_below g)) = in_range (least_below g) ((g + 1) - least_below g) m both.0 in
    (omega (arith, inside.0, inside.1, width_some), omega (arith, inside.0), eqb-true (bit_at bits (g - m)) 1 both.1)

pub numbers_rising : (g bits : ℕ) → IsRising (numbers_of g bits)
unfolding numbers_of
numbers_rising g bits = filter_rising (is_marked g bits) (range_with_len (least_below g) ((g + 1) - least_below g)) (range_rising (least_below g) ((g + 1) - least_below g))

pub no_numbers : numbers_of 0 0 ≡ []
unfolding numbers_of width
no_numbers = refl

-- ---- what is fresh

-- above the greatest number all is fresh
pub fresh_above : (g bits n : ℕ) → g < n → IsFresh (numbers_of g bits) n
fresh_above g bits n above = all_from (λ m. (m ≢ n) × (m < n + width)) (numbers_of g bits) each
  where
    each : (m : ℕ) → Contains (numbers_of g bits) m → (m ≢ n) × (m < n + width)
    each m has = let below : m ≤ g = (from_numbers g bits m has).0 in (omega (arith, below, above), omega (arith, below, above))

-- up to it, what the window spans and whose bit isn't set
pub fresh_below : (g bits n : ℕ) → n ≤ g → g - n < width → bit_at bits (g - n) ≡ 0 → IsFresh (numbers_of g bits) n
fresh_below g bits n below spans clear = all_from (λ m. (m ≢ n) × (m < n + width)) (numbers_of g bits) each
  where
    each : (m : ℕ) → Contains (numbers_of g bits) m → (m ≢ n) × (m < n + width)
    each m has =
        let marked = from_numbers g bits m has in
        let least : m ≤ g = marked.0 in
        let set : bit_at bits (g - m) ≡ 1 = marked.2 in
        (λ same. let both : 0 ≡ 1 = sym clear ∙ ap (λ k. bit_at bits (g - k)) (sym same) ∙ set in absurd (omega (arith, both)), omega (arith, least, spans, below))

no_difference : (k : ℕ) → k - k ≡ 0
no_difference k = omega arith

-- what the bits say of a number that is fresh
pub near_when_fresh : (g bits n : ℕ) → (0 < g → bit_at bits 0 ≡ 1) → IsFresh (numbers_of g bits) n → g - n < width
near_when_fresh g bits n kept fresh = by (cases_lt 0 g)
  where
    by : (0 < g) ⊎ (g ≤ 0) → g - n < width
    by (inl some) =
        let here : Contains (numbers_of g bits) g =
        to_numbers g bits g (omega arith) (omega (arith, width_some)) (ap (bit_at bits) (no_difference g) ∙ kept some) in
        let near : g < n + width = (all_at (λ m. (m ≢ n) × (m < n + width)) (numbers_of g bits) g fresh here).1 in
        omega (arith, near, width_some)
    by (inr zeros) = omega (arith, zeros, width_some)

pub clear_when_fresh : (g bits n : ℕ) → n ≤ g → g - n < width → IsFresh (numbers_of g bits) n → bit_at bits (g - n) ≡ 0
clear_when_fresh g bits n below spans fresh = by (cases_lt 0 (bit_at bits (g - n)))
  where
    by : (0 < bit_at bits (g - n)) ⊎ (bit_at bits (g - n) ≤ 0) → bit_at bits (g - n) ≡ 0
    by (inl some) =
        let set : bit_at bits (g - n) ≡ 1 = omega (arith, some, bit_at-lt bits (g - n)) in
        let here : Contains (numbers_of g bits) n = to_numbers g bits n below (omega (arith, spans, below)) set in
        absurd ((all_at (λ m. (m ≢ n) × (m < n + width)) (numbers_of g bits) n fresh here).0 refl)
    by (inr clear) = omega (arith, clear)

-- ---- one number more

all_near : (g bits m : ℕ) → g < m + width → All (λ k. k < m + width) (numbers_of g bits)
all_near g bits m near =
    all_from (λ k. k < m + width) (numbers_of g bits) (λ k has. let below : k ≤ g = (from_numbers g bits k has).0 in omega (arith, below, near))

pub numbers_window : (g bits : ℕ) → IsWindow (numbers_of g bits)
numbers_window g bits = record {
  rising = numbers_rising g bits;
  near = all_from (λ m. All (λ k. k < m + width) (numbers_of g bits)) (numbers_of g bits) (λ m has. all_near g bits m (from_numbers g bits m has).1);
}

-- a number above the greatest: each bit moves up by the difference, and the lowest is set
pub numbers_above : (g bits n more : ℕ) → g < n → bit_at more 0 ≡ 1
    → ((i : ℕ) → 0 < i → i < n - g → i < width → bit_at more i ≡ 0)
    → ((i : ℕ) → 0 < i → n - g ≤ i → i < width → bit_at more i ≡ bit_at bits (i - (n - g)))
    → numbers_of n more ≡ with_accepted (numbers_of g bits) n
numbers_above g bits n more above top between moved =
    accepted_is (numbers_of g bits) (numbers_of n more) n (numbers_window g bits) (fresh_above g bits n above) (numbers_rising n more) into out
  where
    same_bit : (m : ℕ) → m ≤ g → n < m + width → bit_at more (n - m) ≡ bit_at bits (g - m)
    same_bit m below near =
        let place : n - m - (n - g) ≡ g - m = omega (arith, below, above) in
        moved (n - m) (omega (arith, below, above)) (omega (arith, below, above)) (omega (arith, near)) ∙ ap (bit_at bits) place

    was : (m : ℕ) → m ≤ n → n < m + width → bit_at more (n - m) ≡ 1 → (m < n) ⊎ (n ≤ m) → (g < m) ⊎ (m ≤ g) → (n ≡ m) ⊎ Contains (numbers_of g bits) m
    was m below near set (inr same) older = inl (omega (arith, same, below))
    was m below near set (inl less) (inr old) = inr (to_numbers g bits m old (omega (arith, near, above)) (sym (same_bit m old near) ∙ set))
    was m below near set (inl less) (inl new) =
        let none : bit_at more (n - m) ≡ 0 = between (n - m) (omega (arith, less)) (omega (arith, new, above)) (omega (arith, near)) in
        absurd (omega (arith, none, set))

    into : (m : ℕ) → Contains (numbers_of n more) m → ((n ≡ m) ⊎ Contains (numbers_of g bits) m) × (n < m + width) × All (λ k. k < m + width) (numbers_of g bits)
    into m has =
        let marked = from_numbers n more m has in
        (was m marked.0 marked.1 marked.2 (cases_lt m n) (cases_lt g m), marked.1, all_near g bits m (omega (arith, marked.1, above)))

    out : (m : ℕ) → (n ≡ m) ⊎ Contains (numbers_of g bits) m → n < m + width → Contains (numbers_of n more) m
    out m (inl same) near = rw (← same) (to_numbers n more n (omega arith) (omega (arith, width_some)) (ap (bit_at more) (no_difference n) ∙ top))
    out m (inr has) near =
        let marked = from_numbers g bits m has in
        let below : m ≤ g = marked.0 in
        to_numbers n more m (omega (arith, below, above)) near (same_bit m below near ∙ marked.2)

-- a number up to the greatest: its bit is set
pub numbers_below : (g bits n more : ℕ) → n ≤ g → g - n < width → IsFresh (numbers_of g bits) n → bit_at more (g - n) ≡ 1
    → ((i : ℕ) → i ≢ g - n → bit_at more i ≡ bit_at bits i)
    → numbers_of g more ≡ with_accepted (numbers_of g bits) n
numbers_below g bits n more below spans fresh here other =
    accepted_is (numbers_of g bits) (numbers_of g more) n (numbers_window g bits) fresh (numbers_rising g more) into out
  where
    same_bit : (m : ℕ) → m ≤ g → n ≢ m → bit_at more (g - m) ≡ bit_at bits (g - m)
    same_bit m least apart = other (g - m) (λ same. apart (omega (arith, same, least, below)))

    was : (m : ℕ) → m ≤ g → g < m + width → bit_at more (g - m) ≡ 1 → (n ≡ m) ⊎ (n ≢ m) → (n ≡ m) ⊎ Contains (numbers_of g bits) m
    was m least near set (inl same) = inl same
    was m least near set (inr apart) = inr (to_numbers g bits m least near (sym (same_bit m least apart) ∙ set))

    into : (m : ℕ) → Contains (numbers_of g more) m → ((n ≡ m) ⊎ Contains (numbers_of g bits) m) × (n < m + width) × All (λ k. k < m + width) (numbers_of g bits)
    into m has =
        let marked = from_numbers g more m has in
        (was m marked.0 marked.1 marked.2 (cases_eq n m), omega (arith, marked.1, below), all_near g bits m marked.1)

    is_here : (m : ℕ) → n ≡ m → Contains (numbers_of g more) m
    is_here m same = rw (← same) (to_numbers g more n below (omega (arith, spans, below)) here)

    out : (m : ℕ) → (n ≡ m) ⊎ Contains (numbers_of g bits) m → n < m + width → Contains (numbers_of g more) m
    out m (inl same) near = is_here m same
    out m (inr has) near = stays (from_numbers g bits m has) (cases_eq n m)
      where
        stays : (m ≤ g) × (g < m + width) × (bit_at bits (g - m) ≡ 1) → (n ≡ m) ⊎ (n ≢ m) → Contains (numbers_of g more) m
        stays marked (inl same) = is_here m same
        stays marked (inr apart) = to_numbers g more m marked.0 marked.1 (same_bit m marked.0 apart ∙ marked.2)
