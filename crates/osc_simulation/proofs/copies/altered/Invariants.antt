use Rattle.std.proofs.Common.{◌≡◌, drop}
use Rattle.osc_simulation.specs.{altered}
use Rattle.osc_simulation.proofs.copies.altered.Given as goal

-- the changes that are left make the same of the copy
abbrev pub invariant-loop-change : goal.invariant-loop-change
invariant-loop-change l = altered (drop l.change-index l.changes) l.copy.items ≡ altered l.changes l.bytes
