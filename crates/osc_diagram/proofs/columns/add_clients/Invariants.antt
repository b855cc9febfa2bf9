use Rattle.std.proofs.Common.{◌≡◌, ◌++◌, drop, map}
use Rattle.osc_script.specs.declared.node.NodeName.TheVariants.{Client}
use Rattle.osc_diagram.proofs.columns.add_clients.Given as goal

abbrev pub invariant-loop-client : goal.invariant-loop-client
invariant-loop-client l = l.nodes.items ++ map Client (drop l.client-index l.clients) ≡ l.initial.nodes.items ++ map Client l.clients
