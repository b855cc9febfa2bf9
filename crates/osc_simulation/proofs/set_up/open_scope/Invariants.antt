use Rattle.std.proofs.Common.{◌≡◌, drop}
use Rattle.std.specs.FinSet as set
use Rattle.osc_simulation.specs.{scope_from}
use Rattle.osc_simulation.proofs.set_up.open_scope.Given as goal

-- what is left makes the same scope
abbrev pub invariant-loop-line : goal.invariant-loop-line
invariant-loop-line l = scope_from l.scope (drop l.line-index l.lines) ≡ scope_from set.empty l.lines
