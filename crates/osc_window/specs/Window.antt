-- The replay window: which sequence numbers are fresh, and what is kept of those accepted (RFC 8613 section 7.4).
use Rattle.std.specs.Prelude.{◌≢◌, ◌↔◌, ℕ, ◌+◌, ◌<◌, Bool, ◌&&◌, not, nat_eq, nat_lt, if◌then◌else◌, List, [], ◌∷◌, filter}
use Rattle.std.specs.List.{All, Contains, list_all}

-- how many numbers the window spans: twice the default size (RFC 8613 section 3.2.2)
unfoldable pub width : ℕ
width = 64

-- The number is none of those accepted so far, and less than the width below each of them, that is, below the greatest.
abbrev pub IsFresh : List ℕ → ℕ → Type 0
IsFresh accepted n = All (λ m. (m ≢ n) × (m < n + width)) accepted

-- the same as a test
abbrev pub is_fresh : List ℕ → ℕ → Bool
is_fresh accepted n = list_all (λ m. not (nat_eq m n) && nat_lt m (n + width)) accepted

-- each number is less than all later ones
abbrev pub IsRising : List ℕ → Type 0
IsRising [] = Unit {0}
IsRising (m ∷ later) = All (λ k. m < k) later × IsRising later

-- The window of the numbers accepted so far, in any order: it rises, and has those of them that are less than the
-- width below each of them, and so below the greatest.
pub record IsWindowOf (window accepted : List ℕ) : Type 0 where
  pub rising : IsRising window
  pub members : (m : ℕ) → Contains window m ↔ (Contains accepted m × All (λ k. k < m + width) accepted)

-- a number in its place in a rising list
abbrev pub put : ℕ → List ℕ → List ℕ
put n [] = n ∷ []
put n (m ∷ later) = if nat_lt m n then m ∷ put n later else n ∷ m ∷ later

-- whether a number is less than the width below the greatest of the others, and so below each
abbrev pub is_near : List ℕ → ℕ → Bool
is_near others m = list_all (λ k. nat_lt k (m + width)) others

-- the window once the number is accepted: it comes in, and what is too far below the greatest goes
abbrev pub with_accepted : List ℕ → ℕ → List ℕ
with_accepted window n = let members = put n window in filter (is_near members) members

-- a rising list with each number less than the width below all others
pub record IsWindow (window : List ℕ) : Type 0 where
  pub rising : IsRising window
  pub near : All (λ m. All (λ k. k < m + width) window) window

-- ---- histories, the newest number first

-- each number was fresh when it was accepted
abbrev pub AreAccepted : List ℕ → Type 0
AreAccepted [] = Unit {0}
AreAccepted (n ∷ earlier) = IsFresh earlier n × AreAccepted earlier

-- the window that they make
abbrev pub window_of : List ℕ → List ℕ
window_of [] = []
window_of (n ∷ earlier) = with_accepted (window_of earlier) n
