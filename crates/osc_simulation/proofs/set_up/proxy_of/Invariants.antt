use Rattle.std.proofs.Common.{◌≡◌, drop}
use Rattle.osc_simulation.specs.{proxy_of}
use Rattle.osc_simulation.proofs.set_up.proxy_of.Given as goal

-- no line so far is of the client
abbrev pub invariant-loop-line : goal.invariant-loop-line
invariant-loop-line l = proxy_of l.client (drop l.line-index l.lines) ≡ proxy_of l.client l.lines
