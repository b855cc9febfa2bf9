-- What a log counts over all turns of a node, and when it tells of that.
use Rattle.std.specs.Prelude.{ℕ, ◌+◌, ◌*◌, ◌-◌, ◌^◌, ◌==◌, min, Bool, false, List, ◌∷◌, [], ◌++◌, length, replicate, if◌then◌else◌, nat_le, nat_lt, Option, Some, None, is_some, codes, decimal, slice_index, slice_set, unwrap_or}
use Rattle.osc_model.specs.declared.node.Moment.{Moment}
use Rattle.osc_model.specs.declared.step.RefusedRequest.{RefusedRequest}
use Rattle.osc_log.specs.Line.{Growing, begun, ended, with_number}
use Rattle.osc_log.specs.Turns.{Telling, Turn}
use Rattle.osc_log.specs.declared.counters.Counters.{Counters}
use Rattle.osc_log.specs.declared.held.Held.{Held}
use Rattle.osc_log.specs.declared.held.Held.TheVariants.{Server, Proxy}

-- nothing was counted, by a log that tells of it after so many seconds
abbrev pub no_counters : ℕ → Counters
no_counters every = record { every = every; due = None; received = 0; sent = 0; served = 0; refused = 0; reasons = replicate 32 0 }

-- `some` more, as far as a number of 64 bits counts
abbrev pub more : ℕ → ℕ → ℕ
more count some = min (count + some) (2 ^ 64 - 1)

abbrev pub one_if : Bool → ℕ
one_if is = if is then 1 else 0

-- by the number of the reason; at 0 those whose code tells it
abbrev pub place_of : Option ℕ → ℕ
place_of None = 0
place_of (Some number) = if nat_lt number 32 then number else 0

abbrev pub one_more : ℕ → List ℕ → List ℕ
one_more place counts = slice_set counts place (more (slice_index counts place) 1)

abbrev pub with_reason : Option RefusedRequest → List ℕ → List ℕ
with_reason None counts = counts
with_reason (Some refused) counts = one_more (place_of refused.reason) counts

-- so many seconds after a moment, in milliseconds
abbrev pub seconds_after : ℕ → Moment → ℕ
seconds_after seconds now = now.ms + seconds * 1000

-- a turn counts as one, with the datagram that came by it, what it sent, served and refused
abbrev pub with_turn : Turn → Counters → Counters
with_turn turn counters = record {
  every = counters.every;
  due = Some (unwrap_or counters.due (seconds_after counters.every turn.now));
  received = more counters.received (one_if turn.received);
  sent = more counters.sent (length turn.step.out);
  served = more counters.served (one_if (is_some turn.step.notes.served));
  refused = more counters.refused (one_if (is_some turn.step.notes.refused));
  reasons = with_reason turn.step.notes.refused counters.reasons;
}

-- a datagram for whose step there was no memory came
abbrev pub with_lost : Counters → Counters
with_lost counters = record counters { received = more counters.received 1 }

-- they are told by the first turn that is so many seconds after the first one, and by each that is as many after they were told last
abbrev pub is_due : Option ℕ → Turn → Bool
is_due None turn = false
is_due (Some due) turn = nat_le due turn.now.ms

abbrev pub are_due : Turn → Counters → Bool
are_due turn counters = is_due counters.due turn

abbrev pub told_at : Moment → Counters → Counters
told_at now counters = record counters { due = Some (seconds_after counters.every now) }

-- after a turn, whose line of counters is told where it is due
abbrev pub after_turn : Turn → Counters → Counters
after_turn turn counters = if are_due turn (with_turn turn counters) then told_at turn.now (with_turn turn counters) else with_turn turn counters

-- ---- the line of counters

-- refused_N=COUNT, where any was
abbrev pub with_count : ℕ → ℕ → Growing → Growing
with_count place count line = if count == 0 then line else with_number (codes "refused_" ++ decimal place) count line

abbrev pub with_counts : ℕ → List ℕ → Growing → Growing
with_counts place [] line = line
with_counts place (count ∷ counts) line = with_counts (place + 1) counts (with_count place count line)

abbrev pub with_held : Held → Growing → Growing
with_held (Server contexts resources) line = with_number (codes "resources") resources (with_number (codes "contexts") contexts line)
with_held (Proxy exchanges) line = with_number (codes "exchanges") exchanges line

-- MOMENT counted received=N sent=N served=N refused=N refused_N=N .. contexts=N resources=N, or exchanges=N; or an object of the same
abbrev pub counted_text : Telling → Moment → Counters → Held → List ℕ
counted_text telling now counters held =
    ended (with_held held (with_counts 0 counters.reasons (with_number (codes "refused") counters.refused (with_number (codes "served") counters.served
    (with_number (codes "sent") counters.sent (with_number (codes "received") counters.received (begun telling.form now telling.time (codes "counted"))))))))

-- the counters with this turn, where they are due
abbrev pub due_text : Telling → Turn → Counters → Held → List ℕ
due_text telling turn counters held = if are_due turn (with_turn turn counters) then counted_text telling turn.now (with_turn turn counters) held else []
