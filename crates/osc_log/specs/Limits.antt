-- How many lines of each kind are told: the first of each second, and then how many more there were.
use Rattle.std.specs.Prelude.{ℕ, ◌==◌, ◌+◌, ◌-◌, ◌/◌, ◌^◌, min, Bool, true, if◌then◌else◌, nat_lt, Option, Some, None}
use Rattle.osc_model.specs.declared.node.Moment.{Moment}
use Rattle.osc_log.specs.Kinds.{kind_of}
use Rattle.osc_log.specs.Turns.{Turn}
use Rattle.osc_log.specs.declared.kind.Kind.{Kind}
use Rattle.osc_log.specs.declared.kind.Kind.TheVariants.{NoContext, UnderContext, Sent}
use Rattle.osc_log.specs.declared.limits.Limits.{Limits}
use Rattle.osc_log.specs.declared.limits.Tally.{Tally}

-- ---- one kind

-- the most of one second that are told
abbrev pub most_lines : ℕ
most_lines = 20

abbrev pub no_lines : Tally
no_lines = record { told = 0; left_out = 0 }

abbrev pub has_room : Tally → Bool
has_room tally = nat_lt tally.told most_lines

-- one line more, told or left out
abbrev pub one_more : Tally → Tally
one_more tally = if has_room tally then record tally { told = tally.told + 1 } else record tally { left_out = min (tally.left_out + 1) (2 ^ 64 - 1) }

-- ---- each kind for itself

-- in this second no line was told yet, and none left out
abbrev pub none_told : ℕ → Limits
none_told second = record { second = second; no_context = no_lines; under_context = no_lines; sent = no_lines }

abbrev pub tally_of : Kind → Limits → Tally
tally_of NoContext limits = limits.no_context
tally_of UnderContext limits = limits.under_context
tally_of Sent limits = limits.sent

abbrev pub with_tally : Kind → Tally → Limits → Limits
with_tally NoContext tally limits = record limits { no_context = tally }
with_tally UnderContext tally limits = record limits { under_context = tally }
with_tally Sent tally limits = record limits { sent = tally }

-- those of the second of this moment: a new second has none yet
abbrev pub limits_at : Moment → Limits → Limits
limits_at now limits = if now.ms / 1000 == limits.second then limits else none_told (now.ms / 1000)

-- whether a line of this second is told: one of a kind only where few of it were, and any other
abbrev pub is_told : Option Kind → Limits → Bool
is_told None limits = true
is_told (Some kind) limits = has_room (tally_of kind limits)

abbrev pub with_line : Option Kind → Limits → Limits
with_line None limits = limits
with_line (Some kind) limits = with_tally kind (one_more (tally_of kind limits)) limits

-- after a line of a turn's datagram
abbrev pub after_line : Turn → Limits → Limits
after_line turn limits = with_line (kind_of turn.step.notes) (limits_at turn.now limits)
