-- What is told of a turn, all of it but some lines where there are many of their kind.
use Rattle.std.specs.Prelude.{ℕ, ◌==◌, ◌/◌, if◌then◌else◌, List, [], ◌∷◌, ◌++◌}
use Rattle.osc_model.specs.declared.node.Moment.{Moment}
use Rattle.osc_model.specs.declared.step.Datagram.{Datagram}
use Rattle.osc_log.specs.Counters.{after_turn, due_text}
use Rattle.osc_log.specs.Json as json
use Rattle.osc_log.specs.Kinds.{kind_of}
use Rattle.osc_log.specs.Limits.{after_line, is_told, limits_at}
use Rattle.osc_log.specs.Text as text
use Rattle.osc_log.specs.Turns.{Telling, Turn}
use Rattle.osc_log.specs.declared.form.Form.{Form}
use Rattle.osc_log.specs.declared.form.Form.TheVariants.{Text, Json}
use Rattle.osc_log.specs.declared.held.Held.{Held}
use Rattle.osc_log.specs.declared.kind.Kind.{Kind}
use Rattle.osc_log.specs.declared.kind.Kind.TheVariants as kind
use Rattle.osc_log.specs.declared.limits.Limits.{Limits}
use Rattle.osc_log.specs.declared.limits.Tally.{Tally}
use Rattle.osc_log.specs.declared.seen.Seen.{Seen}

-- ---- a datagram

-- its line, in either form
abbrev pub line_by : Form → Telling → Turn → Datagram → List ℕ
line_by Text telling turn datagram = text.line_text turn datagram
line_by Json telling turn datagram = json.line_text telling turn datagram

abbrev pub line_text : Telling → Turn → Datagram → List ℕ
line_text telling turn datagram = line_by telling.form telling turn datagram

abbrev pub left_out_by : Form → List ℕ → Moment → Kind → ℕ → List ℕ
left_out_by Text time now kind count = text.left_out_text now kind count
left_out_by Json time now kind count = json.left_out_text time kind count

-- how many lines of a kind were left out, where any was
abbrev pub left_out_of : Telling → Moment → Kind → Tally → List ℕ
left_out_of telling now kind tally = if tally.left_out == 0 then [] else left_out_by telling.form telling.time now kind tally.left_out

abbrev pub all_left_out : Telling → Moment → Limits → List ℕ
all_left_out telling now limits =
    left_out_of telling now kind.NoContext limits.no_context ++ left_out_of telling now kind.UnderContext limits.under_context ++ left_out_of telling now kind.Sent limits.sent

-- what comes first in a new second: how many lines were left out before
abbrev pub ended_text : Telling → Moment → Limits → List ℕ
ended_text telling now limits = if now.ms / 1000 == limits.second then [] else all_left_out telling now limits

-- its line, unless that is left out
abbrev pub line_told : Telling → Turn → Datagram → Limits → List ℕ
line_told telling turn datagram limits = if is_told (kind_of turn.step.notes) (limits_at turn.now limits) then line_text telling turn datagram else []

abbrev pub told_of : Telling → Turn → Limits → Datagram → List ℕ
told_of telling turn limits datagram = ended_text telling turn.now limits ++ line_told telling turn datagram limits

-- ---- all that a turn sent

abbrev pub told_by : Telling → Turn → Limits → List Datagram → List ℕ
told_by telling turn limits [] = []
told_by telling turn limits (datagram ∷ out) = told_of telling turn limits datagram ++ told_by telling turn (after_line turn limits) out

-- what was told of each kind then
abbrev pub after_lines : Turn → Limits → List Datagram → Limits
after_lines turn limits [] = limits
after_lines turn limits (datagram ∷ out) = after_lines turn (after_line turn limits) out

-- ---- a turn

-- a turn is told in this form, at this time
abbrev pub telling_of : Form → List ℕ → Telling
telling_of form time = record { form = form; time = time }

-- what is told of a turn at this time: its lines, and then the counters, where these are due
abbrev pub turn_text : Form → List ℕ → Seen → Turn → Held → List ℕ
turn_text form time seen turn held =
    told_by (telling_of form time) turn seen.limits turn.step.out ++ due_text (telling_of form time) turn seen.counters held

-- what the log has seen after it
abbrev pub seen_after : Turn → Seen → Seen
seen_after turn seen = record { limits = after_lines turn seen.limits turn.step.out; counters = after_turn turn seen.counters }
