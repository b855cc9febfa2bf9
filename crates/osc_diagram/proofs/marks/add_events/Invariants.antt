use Rattle.std.proofs.Common.{◌≡◌, ◌++◌, drop}
use Rattle.osc_diagram.specs.Marks.{events_marks}
use Rattle.osc_diagram.proofs.marks.add_events.Given as goal

-- the marks so far, and those of the events that are left
abbrev pub invariant-loop-event : goal.invariant-loop-event
invariant-loop-event l = l.marks.items ++ events_marks l.run l.moment (drop l.event-index l.events) ≡ l.initial.marks.items ++ events_marks l.run l.moment l.events
