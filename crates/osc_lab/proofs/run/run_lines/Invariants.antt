use Rattle.std.proofs.Common.{ℕ, List, take}
use Rattle.std.specs.Io.KnownBytes.{Appends}
use Rattle.osc_lab.specs.Inner.Telling.{live, network}
use Rattle.osc_lab.specs.{TellsLines}
use Rattle.osc_lab.proofs.run.run_lines.Given as goal

-- the outcome of the lines so far is told
abbrev pub invariant-loop-line : goal.invariant-loop-line
invariant-loop-line g l =
    (text : List ℕ) × TellsLines (network g.P.Port.received g.P.Port.sent l.cast.addresses.now) (record { clients = l.cast.clients.now; turns = l.turns }) (live l.initial.nodes l.initial.means)
    (take l.line-index l.lines) text (live l.nodes l.means)
    × Appends (g.O.Write.contents l.initial.writer) (g.O.Write.contents l.writer) text
