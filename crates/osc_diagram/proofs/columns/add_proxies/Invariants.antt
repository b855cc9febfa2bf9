use Rattle.std.proofs.Common.{◌≡◌, ◌++◌, drop, map}
use Rattle.osc_script.specs.declared.node.NodeName.TheVariants.{Proxy}
use Rattle.osc_diagram.proofs.columns.add_proxies.Given as goal

abbrev pub invariant-loop-proxy : goal.invariant-loop-proxy
invariant-loop-proxy l = l.nodes.items ++ map Proxy (drop l.proxy-index l.proxies) ≡ l.initial.nodes.items ++ map Proxy l.proxies
