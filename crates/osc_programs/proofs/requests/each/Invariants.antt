use Rattle.std.proofs.Common.{◌≡◌, List, [], take}
use Rattle.std.specs.Io.KnownBytes.{Appends}
use Rattle.osc_programs.specs.{Passed, Passes, nothing_passed}
use Rattle.osc_programs.specs.Staying.{Stays, ended_by_ends, ends_text}
use Rattle.osc_programs.specs.declared.requests.LineEnd.{LineEnd}
use Rattle.osc_programs.proofs.requests.each.Given as goal

-- what came of the requests so far, and what was told of them
abbrev pub invariant-loop-entry : goal.invariant-loop-entry
invariant-loop-entry g l =
    (ends : List LineEnd) × (passed : Passed)
    × Stays l.asked.manner
    (record {
      client = record { node = l.initial.staying.talking.client; busy = l.initial.staying.talking.pace.busy_since; supply = l.initial.staying.talking.supply };
      due = l.initial.staying.due;
      stale = l.initial.staying.stale;
      ends = [];
      passed = nothing_passed;
    })
    (take l.entry-index l.asked.requests.items)
    (record {
      client = record { node = l.staying.talking.client; busy = l.staying.talking.pace.busy_since; supply = l.staying.talking.supply };
      due = l.staying.due;
      stale = l.staying.stale;
      ends = ends;
      passed = passed;
    })
    × Passes g.P.Port.received g.P.Port.sent l.initial.port l.port passed
    × (l.ended ≡ ended_by_ends ends) × Appends (g.W.Write.contents l.initial.writer) (g.W.Write.contents l.writer) (ends_text ends)
