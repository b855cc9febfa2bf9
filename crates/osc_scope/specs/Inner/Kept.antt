-- Entries as a scope keeps them: the texts of all paths one after the other, and where each entry's is. No public contract rests on this.
use Rattle.std.specs.Prelude.{◌≡◌, ℕ, ◌-◌, ◌≤◌, Bool, true, false, List, [], ◌∷◌, length, take, drop, map}
use Rattle.std.specs.List.{AllByRecursion}
use Rattle.std.specs.List.Sorted.{IsPartitionPoint}
use Rattle.std.specs.Ordering.{is_lt}
use Rattle.osc_model.specs.{path_cmp}
use Rattle.osc_scope.specs.declared.kept.EntryPlace.{EntryPlace}

-- the text between two places, with the set of methods
abbrev pub pair_at : List ℕ → EntryPlace → List ℕ × ℕ
pair_at texts place = (take (place.end - place.start) (drop place.start texts), place.mask)

abbrev pub pairs_at : List ℕ → List EntryPlace → List (List ℕ × ℕ)
pairs_at texts places = map (pair_at texts) places

-- the place is one in texts of this length
abbrev pub IsWithin : ℕ → EntryPlace → Type 0
IsWithin size place = (place.start ≤ place.end) × (place.end ≤ size)

-- ---- entries in the order of their paths

-- whether the pair's path is before this one
abbrev pub is_before : List ℕ → List ℕ × ℕ → Bool
is_before path pair = is_lt (path_cmp pair.0 path)

-- no path is before that of an earlier pair
abbrev pub AreInOrder : List (List ℕ × ℕ) → Type 0
AreInOrder [] = Unit {0}
AreInOrder (pair ∷ pairs) = AllByRecursion (λ later. is_before pair.0 later ≡ false) pairs × AreInOrder pairs

-- the pairs below this place are before the path, and those from there on aren't
pub record IsPlaceOf (path : List ℕ) (pairs : List (List ℕ × ℕ)) (place : ℕ) : Type 0 where
  pub within : place ≤ length pairs
  pub parts : IsPartitionPoint (λ pair. is_before path pair ≡ true) (λ pair. is_before path pair ≡ false) pairs place
