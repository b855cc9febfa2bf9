use Rattle.std.proofs.Common.{◌++◌, List, ℕ, drop}
use Rattle.osc_simulation.specs.{PrintAllRecords}
use Rattle.osc_simulation.proofs.record.records_text.Given as goal

-- what the events that are left print goes after the text so far
abbrev pub invariant-loop-event : goal.invariant-loop-event
invariant-loop-event l = (rest : List ℕ) → PrintAllRecords l.with_bytes l.clients l.world (drop l.event-index l.records) rest
    → PrintAllRecords l.with_bytes l.clients l.world l.records (l.text.items ++ rest)
