use Rattle.std.proofs.Common.{◌≡◌, drop}
use Rattle.osc_simulation.specs.{with_proxies}
use Rattle.osc_simulation.proofs.set_up.add_all.Given as goal

-- what is left makes what all proxies do
abbrev pub invariant-loop-proxy : goal.invariant-loop-proxy
invariant-loop-proxy l = with_proxies l.start (drop l.proxy-index l.proxies) ≡ with_proxies l.initial.start l.proxies
