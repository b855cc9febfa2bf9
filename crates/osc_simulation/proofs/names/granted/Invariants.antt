use Rattle.std.proofs.Common.{◌≡◌, ◌++◌, drop}
use Rattle.osc_simulation.specs.{granted}
use Rattle.osc_simulation.proofs.names.granted.Given as goal

-- the clients so far, and those of the lines that are left
abbrev pub invariant-loop-line : goal.invariant-loop-line
invariant-loop-line l = l.clients.items ++ granted (drop l.line-index l.lines) ≡ granted l.lines
