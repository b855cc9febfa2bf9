-- The time of a node, in nanoseconds since 1970: the wall clock's at the start, and what a clock that nobody sets has counted since.
use Rattle.std.specs.Prelude.{◌+◌, ◌-◌, ◌*◌, ◌/◌, ◌^◌, ℕ, Bool, Option, Some, None, if◌then◌else◌, max, min, nat_le}
use Rattle.std.specs.Duration.{as_nanos}
use Rattle.osc_turn.specs.declared.lead.Lead.{Lead}
use Rattle.osc_turn.specs.declared.watch.Reading.{Reading}

-- the last nanosecond of the last moment, which is below 2^63 milliseconds
abbrev pub latest : ℕ
latest = 2 ^ 63 * 1000000 - 1

abbrev pub one_minute : ℕ
one_minute = 60000000000

-- the time at the last reading, what the steady clock had counted then, and the readings up to it in which the wall clock was ahead
pub record Time : Type 0 where
  pub nanos : ℕ
  pub counted : ℕ
  pub lead : Option Lead

-- The moment of a time: its whole milliseconds.
abbrev pub ms_of : Time → ℕ
ms_of time = time.nanos / 1000000

-- ---- a reading

-- what the wall clock says; where that is after the latest time, the latest
abbrev pub wall_of : Reading → ℕ
wall_of reading = min (as_nanos reading.wall) latest

-- what the steady clock has counted; where it says less than before, as much as before
abbrev pub counted_by : Time → Reading → ℕ
counted_by time reading = max time.counted (as_nanos reading.counted)

-- The time by the steady clock alone: as much later as that has counted since the last reading. The latest time stays.
abbrev pub steady_time : Time → Reading → ℕ
steady_time time reading = min (time.nanos + (counted_by time reading - time.counted)) latest

-- ---- the wall clock ahead

-- one reading more that is ahead, by so much
abbrev pub with_lead : Option Lead → ℕ → ℕ → Lead
with_lead None counted ahead = record { since = counted; least = ahead }
with_lead (Some lead) counted ahead = record { since = lead.since; least = min lead.least ahead }

-- it was ahead for a minute
abbrev pub is_believed : Lead → ℕ → Bool
is_believed lead counted = nat_le one_minute (counted - lead.since)

-- The time steps up by the least lead of all readings of a minute, and then none is ahead.
abbrev pub led_by : ℕ → ℕ → Lead → Time
led_by nanos counted lead =
    if is_believed lead counted
    then (record { nanos = nanos + lead.least; counted = counted; lead = None })
    else (record { nanos = nanos; counted = counted; lead = Some lead })

-- ---- the time

-- at the first reading
abbrev pub begun : Reading → Time
begun reading = record { nanos = wall_of reading; counted = as_nanos reading.counted; lead = None }

-- After one more reading: the time by the steady clock alone, unless the wall clock was ahead of it for a minute. A wall clock that isn't ahead ends
-- what was.
abbrev pub after : Time → Reading → Time
after time reading =
    if nat_le (wall_of reading) (steady_time time reading)
    then (record { nanos = steady_time time reading; counted = counted_by time reading; lead = None })
    else (led_by (steady_time time reading) (counted_by time reading)
    (with_lead time.lead (counted_by time reading) (wall_of reading - steady_time time reading)))
