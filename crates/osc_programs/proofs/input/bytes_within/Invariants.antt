use Rattle.std.proofs.Common.{◌≤◌, length}
use Rattle.std.specs.Io.KnownBytes.{Consumes}
use Rattle.osc_programs.proofs.input.bytes_within.Given as goal

-- the bytes so far are what was taken, and no more than there may be
abbrev pub invariant-loop : goal.invariant-loop
invariant-loop g l =
    (length l.bytes.items ≤ l.most)
    × Consumes (g.I.Read.remaining l.initial.reader) (g.I.Read.remaining l.reader) l.bytes.items
