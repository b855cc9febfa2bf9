-- What a node keeps of its last step.
use Rattle.std.specs.Prelude.{◌≡◌, ℕ, ◌+◌, ◌<◌, ◌≤◌, ◌⊎◌, ◌&&◌, Bool, false, not, List, length, Option, Some, None, MatchOption, is_some, slice_get, option_and_then}
use Rattle.osc_model.specs.declared.step.Datagram.{Datagram}
use Rattle.osc_model.specs.declared.step.Entry.{Entry}
use Rattle.osc_model.specs.declared.step.Step.{Step}
use Rattle.osc_device.specs.declared.round.Round.{Round}
use Rattle.osc_turn.specs.Kept.{path_changed_by}
use Rattle.osc_c.specs.Filling.{written}
use Rattle.osc_c.specs.Plain.{plain_peer}
use Rattle.osc_c.specs.Told.{came_of}
use Rattle.osc_c.specs.declared.calls.outcome.Outcome.{Outcome}
use Rattle.osc_c.specs.declared.calls.outcome.Outcome.TheVariants.{Done, TooShort, Nothing}
use Rattle.osc_c.specs.declared.calls.plain.PlainPeer.{PlainPeer}
use Rattle.osc_c.specs.declared.calls.round.Told.{Told}

-- the step, where there was one that sends to others, and how many of its datagrams were taken; what a device's own tick learnt, where it did; the step
-- that a device's server made for the device itself, where it made one; and whether its holder has kept what was changed
pub record LastStep : Type 0 where
  pub step : Option Step
  pub taken : ℕ
  pub own : Option Told
  pub served : Option Step
  pub kept : Bool

abbrev pub nothing : LastStep
nothing = record { step = None; taken = 0; own = None; served = None; kept = false }

abbrev pub since : Step → LastStep
since step = record { step = Some step; taken = 0; own = None; served = None; kept = false }

-- a tick of the device itself, of which nothing goes to others
abbrev pub since_tick : Round → LastStep
since_tick round = record { step = None; taken = 0; own = came_of round; served = round.served; kept = false }

-- what the device itself asked of its server, of which nothing goes to others
abbrev pub since_own : Round → LastStep
since_own round = record { step = None; taken = 0; own = None; served = round.served; kept = false }

-- the datagram that is taken next: they are taken in their order
abbrev pub upcoming : LastStep → Option Datagram
upcoming last = option_and_then (λ step. slice_get step.out last.taken) last.step

abbrev pub after_next : LastStep → LastStep
after_next last = record last { taken = last.taken + 1 }

-- what a caller has of a datagram: to whom it goes, its bytes, and how many they are
pub record Out : Type 0 where
  pub to : PlainPeer
  pub bytes : List ℕ
  pub size : ℕ

-- Where there is none left, nothing changes.
abbrev pub HasNone : LastStep → Out → Outcome → LastStep → Out → Type 0
HasNone old out outcome new after = (outcome ≡ Nothing) × (new ≡ old) × (after ≡ out)

-- The next datagram is taken where it fits; where it doesn't it stays, and how many bytes it has is told.
abbrev pub HasOne : Datagram → LastStep → Out → Outcome → LastStep → Out → Type 0
HasOne datagram old out outcome new after =
    ((outcome ≡ Done) × (length datagram.bytes ≤ length out.bytes) × (new ≡ after_next old)
    × (after ≡ record { to = plain_peer datagram.to; bytes = written datagram.bytes out.bytes; size = length datagram.bytes }))
    ⊎ ((outcome ≡ TooShort) × (length out.bytes < length datagram.bytes) × (new ≡ old) × (after ≡ record out { size = length datagram.bytes }))

abbrev pub HandsOut : LastStep → Out → Outcome → LastStep → Out → Type 0
HandsOut old out outcome new after = MatchOption (upcoming old) (HasNone old out outcome new after) (λ datagram. HasOne datagram old out outcome new after)

-- ---- what it changed

-- the request that a step of the server served, if there was a step, and it served one
abbrev pub entry_in : Option Step → Option Entry
entry_in step = option_and_then (λ step. step.notes.served) step

-- the same of the last step: it was made for others, or for the device itself
abbrev pub entry_of : Option Step → Option Step → Option Entry
entry_of (Some step) own = step.notes.served
entry_of None own = entry_in own

-- the path that the last step changed, if it changed any
abbrev pub path_changed : LastStep → Option (List ℕ)
path_changed last = path_changed_by (entry_of last.step last.served)

-- it changed something that isn't kept yet
abbrev pub waits : LastStep → Bool
waits last = is_some (path_changed last) && not last.kept
