use Rattle.std.proofs.Common.{◌≡◌, drop}
use Rattle.osc_simulation.specs.{made, made_from}
use Rattle.osc_simulation.proofs.names.made.Given as goal

-- what is left makes what all lines do
abbrev pub invariant-loop-line : goal.invariant-loop-line
invariant-loop-line l = made_from l.proxies.items (drop l.line-index l.lines) ≡ made l.lines
