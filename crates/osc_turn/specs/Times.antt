-- The time of a node over many readings.
use Rattle.std.specs.Prelude.{◌≡◌, ◌≤◌, ◌<◌, ◌+◌, ◌-◌, ◌++◌, ◌∷◌, [], ⊤, ℕ, List, min}
use Rattle.osc_turn.specs.Time.{Time, after, counted_by, latest, one_minute, steady_time, wall_of}
use Rattle.osc_turn.specs.declared.watch.Reading.{Reading}

-- the time after these readings, one after another
abbrev pub after_all : Time → List Reading → Time
after_all time [] = time
after_all time (reading ∷ readings) = after_all (after time reading) readings

-- It goes on by what the steady clock has counted at least. The latest time stays.
abbrev pub GoesOn : Time → Time → Type 0
GoesOn first last = min (first.nanos + (last.counted - first.counted)) latest ≤ last.nanos

-- From this time on, the wall clock was ahead of it by so much at least in each of these readings, one after another.
abbrev pub AreAhead : ℕ → Time → List Reading → Type 0
AreAhead least time [] = ⊤
AreAhead least time (reading ∷ readings) = (steady_time time reading + least ≤ wall_of reading) × AreAhead least (after time reading) readings

-- In the last of these readings, in one at which the steady clock had counted a minute less, and in all between, the wall clock was ahead by so much at
-- least.
pub record WasAhead (least : ℕ) (first : Time) (readings : List Reading) : Type 0 where
  pub before : List Reading
  pub since : Reading
  pub more : List Reading
  pub are : readings ≡ before ++ since ∷ more
  pub minute : counted_by (after_all first before) since + one_minute ≤ (after_all first readings).counted
  pub ahead : AreAhead least (after_all first before) (since ∷ more)

-- Where the time is later after a last reading than by the steady clock alone, the wall clock was ahead for a minute, by as much as the time stepped up.
abbrev pub StepsUp : Time → List Reading → Reading → Type 0
StepsUp first readings last =
    steady_time (after_all first readings) last < (after (after_all first readings) last).nanos
    → WasAhead ((after (after_all first readings) last).nanos - steady_time (after_all first readings) last) first (readings ++ last ∷ [])
