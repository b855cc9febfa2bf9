use Rattle.std.proofs.Common.{◌≡◌, drop}
use Rattle.osc_simulation.specs.{revocation_in}
use Rattle.osc_simulation.proofs.set_up.revocation_path.Given as goal

-- no line so far says one
abbrev pub invariant-loop-line : goal.invariant-loop-line
invariant-loop-line l = revocation_in (drop l.line-index l.lines) ≡ revocation_in l.lines
