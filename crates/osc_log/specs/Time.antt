-- The times of lines.
use Rattle.std.specs.Prelude.{◌≡◌, ℕ, ◌*◌, ◌++◌, List, Some, min, false, ℤ, pos}
use Rattle.jiff_core.specs.DateTime.{civil_nanos}
use Rattle.jiff_core.specs.declared.civil.datetime.DateTime.{DateTime}
use Rattle.jiff_fmt.specs.Text.{datetime_text, zulu_text}
use Rattle.osc_model.specs.declared.node.Moment.{Moment}

-- the nanoseconds since 1970 of a moment, up to those of the last instant of the calendar, in the year 9999
abbrev pub instant : Moment → ℤ
instant now = pos (min (now.ms * 1_000_000) 253_402_207_200_999_999_999)

-- what a clock at UTC shows then, with milliseconds and a `Z` (RFC 3339 section 5.6)
abbrev pub IsTime : Moment → List ℕ → Type 0
IsTime now text = (shown : DateTime) × (civil_nanos shown ≡ instant now) × (text ≡ datetime_text false 84 (Some 3) shown ++ zulu_text false)
