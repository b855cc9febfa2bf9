-- What a caller's room has after bytes were written to it: they are at its front, where they fit, and else it is as it was.
use Rattle.std.specs.Prelude.{ℕ, List, ◌++◌, length, drop, nat_le, if◌then◌else◌}
use Rattle.osc_c.specs.declared.calls.outcome.Outcome.{Outcome}
use Rattle.osc_c.specs.declared.calls.outcome.Outcome.TheVariants.{Done, TooShort}

abbrev pub written : List ℕ → List ℕ → List ℕ
written bytes room = if nat_le (length bytes) (length room) then bytes ++ drop (length bytes) room else room

-- whether there was room for these bytes
abbrev pub if_fits : List ℕ → List ℕ → Outcome
if_fits bytes room = if nat_le (length bytes) (length room) then Done else TooShort

-- a caller's room for bytes, and how many it is told that there are
pub record Room : Type 0 where
  pub bytes : List ℕ
  pub size : ℕ
