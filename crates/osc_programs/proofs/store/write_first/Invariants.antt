use Rattle.std.proofs.Common.{◌≡◌, fold, take}
use Rattle.osc_model.specs.Tree.{Tree}
use Rattle.osc_programs.specs.{with_resource}
use Rattle.osc_programs.proofs.store.write_first.Given as goal

-- the resources so far are in the tree, and written
abbrev pub invariant-loop-resource : goal.invariant-loop-resource
invariant-loop-resource g l =
    (l.tree ≡ fold with_resource l.initial.tree (take l.resource-index l.first))
    × ((kept : Tree) → g.K.Keeping.writes l.initial.keeper kept l.initial.tree → g.K.Keeping.writes l.keeper kept l.tree)
