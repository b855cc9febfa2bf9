-- What a caller is told of what a device did at its own server.
use Rattle.std.specs.Prelude.{◌≡◌, ℕ, ◌==◌, Bool, true, false, if◌then◌else◌, Option, Some, None, MatchOption, option_and_then, option_map}
use Rattle.osc_model.specs.Refusals as refusal
use Rattle.osc_model.specs.declared.step.ClientResult.{ClientResult}
use Rattle.osc_model.specs.declared.step.ClientResult.TheVariants.{Made, Answer, Unverified, TimedOut, Refused}
use Rattle.osc_model.specs.declared.step.Step.{Step}
use Rattle.osc_device.specs.declared.round.Round.{Round}
use Rattle.osc_c.specs.declared.calls.outcome.Outcome.{Outcome}
use Rattle.osc_c.specs.declared.calls.outcome.Outcome.TheVariants as outcome
use Rattle.osc_c.specs.declared.calls.round.Told.{Told}

abbrev pub bare : Outcome → Told
bare outcome = record { outcome = outcome; code = 0 }

-- why nothing was begun, by the client's number
abbrev pub refused_as : ℕ → Outcome
refused_as number =
    if number == refusal.datagram_too_long then outcome.TooLong else if number == refusal.busy then outcome.Busy else if number == refusal.exhausted then outcome.Exhausted else outcome.NoContext

-- a context was made, or the request was answered; it ended unprotected, or without a context; or nothing is known yet
abbrev pub learnt_as : Option ClientResult → Told
learnt_as (Some Made) = bare outcome.Done
learnt_as (Some (Answer reply)) = record { outcome = outcome.Done; code = reply.code.0 }
learnt_as (Some (Unverified code)) = record { outcome = outcome.Unverified; code = code.0 }
learnt_as (Some TimedOut) = bare outcome.Unverified
learnt_as (Some (Refused number)) = bare outcome.Unverified
learnt_as None = bare outcome.Lost

-- of the step that heard the answer; without one it is lost
abbrev pub begun_as : Option Step → Told
begun_as (Some step) = learnt_as step.notes.result
begun_as None = bare outcome.Lost

abbrev pub told_by : Option ClientResult → Option Step → Told
told_by (Some (Refused number)) learnt = bare (refused_as number)
told_by result learnt = begun_as learnt

abbrev pub told_of : Round → Told
told_of round = told_by round.begun.notes.result round.learnt

-- What a device ruled of the tokens of an id is done where it is so now; else it was refused, by the code of the answer.
abbrev pub refused_where_done : Outcome → Outcome
refused_where_done outcome.Done = outcome.Refused
refused_where_done other = other

abbrev pub settled : Bool → Told → Told
settled true told = told
settled false told = record { outcome = refused_where_done told.outcome; code = told.code }

-- what a result tells, where there is one
abbrev pub came_by : Option ClientResult → Option Told
came_by result = option_map (λ result. learnt_as (Some result)) result

-- A tick learns that what is open has ended without an answer, or what the answer says that was carried to it; or nothing.
abbrev pub first_of : Option Told → Option Told → Option Told
first_of (Some told) other = Some told
first_of None other = other

abbrev pub came_of : Round → Option Told
came_of round = first_of (came_by round.begun.notes.result) (option_and_then (λ step. came_by step.notes.result) round.learnt)

-- It tells what was learnt: the outcome and the code; where nothing was, the code stays.
abbrev pub TellsLearnt : Option Told → ℕ → Outcome → ℕ → Type 0
TellsLearnt own old answer new = MatchOption own ((answer ≡ outcome.Nothing) × (new ≡ old)) (λ told. (answer ≡ told.outcome) × (new ≡ told.code))
