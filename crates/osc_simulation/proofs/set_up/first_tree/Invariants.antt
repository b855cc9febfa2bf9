use Rattle.std.proofs.Common.{◌≡◌, drop}
use Rattle.std.specs.FinMap as map
use Rattle.osc_simulation.specs.{tree_from, CanPutAll}
use Rattle.osc_simulation.proofs.set_up.first_tree.Given as goal

-- what is left fits, and makes the same tree
abbrev pub invariant-loop-line : goal.invariant-loop-line
invariant-loop-line l = record {
  fits : CanPutAll l.tree (drop l.line-index l.lines);
  tree : tree_from l.tree (drop l.line-index l.lines) ≡ tree_from map.empty l.lines;
}
