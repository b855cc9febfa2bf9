-- What is told of a wall clock that is behind the time, which isn't believed.
use Rattle.std.specs.Prelude.{◌+◌, ◌-◌, ◌/◌, ◌&&◌, ℕ, Some, None, if◌then◌else◌, nat_le, nat_lt}
use Rattle.osc_turn.specs.Time.{Time, ms_of, wall_of}
use Rattle.osc_turn.specs.declared.behind.Behind.{Behind}
use Rattle.osc_turn.specs.declared.watch.Reading.{Reading}

abbrev pub one_second : ℕ
one_second = 1000000000

-- an hour, in milliseconds
abbrev pub one_hour : ℕ
one_hour = 3600000

abbrev pub nothing_behind : Behind
nothing_behind = record { seconds = None; due = 0 }

-- by how much it is behind
abbrev pub behind_by : Time → Reading → ℕ
behind_by time reading = time.nanos - wall_of reading

-- It is told where it is behind by more than a second, in whole seconds, and for an hour from then on it isn't told again.
abbrev pub told_behind : Behind → ℕ → ℕ → Behind
told_behind before now behind =
    if nat_lt one_second behind && nat_le before.due now
    then (record { seconds = Some (behind / one_second); due = now + one_hour })
    else (record { seconds = None; due = before.due })

-- after this reading, at which the time is this
abbrev pub behind_after : Behind → Time → Reading → Behind
behind_after before time reading = told_behind before (ms_of time) (behind_by time reading)
