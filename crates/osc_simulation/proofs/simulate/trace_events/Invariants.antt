use Rattle.std.proofs.Common.{◌≡◌, ℕ, List, take}
use Rattle.std.specs.Io.KnownBytes.{Appends}
use Rattle.osc_simulation.specs.{Prints}
use Rattle.osc_simulation.proofs.simulate.trace_events.Given as goal

-- the lines so far are counted, and what they print is written
abbrev pub invariant-loop-line : goal.invariant-loop-line
invariant-loop-line g l =
    (l.number ≡ l.line-index) × ((printed : List ℕ) × Prints (record { form = l.form; names = l.names }) 1 l.initial.stage (take l.line-index l.lines) printed l.stage
    × Appends (g.W.Write.contents l.initial.writer) (g.W.Write.contents l.writer) printed)
