use Rattle.std.proofs.Common.{◌≡◌, ◌++◌, drop, map}
use Rattle.osc_script.specs.{address_of, name_of}
use Rattle.osc_diagram.proofs.columns.columns_at.Given as goal

-- the columns so far, and the nodes that are left
abbrev pub invariant-loop-node : goal.invariant-loop-node
invariant-loop-node l = record {
  names : map (λ column. column.name.now) l.columns.items ++ map name_of (drop l.node-index l.nodes) ≡ map name_of l.nodes;
  at : map (λ column. column.at) l.columns.items ++ map address_of (drop l.node-index l.nodes) ≡ map address_of l.nodes;
}
