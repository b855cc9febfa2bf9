use Rattle.std.proofs.Common.{◌≡◌, take}
use Rattle.osc_programs.specs.{tree_of}
use Rattle.osc_programs.proofs.running.first_tree.Given as goal

-- the resources so far are in the tree
abbrev pub invariant-loop-resource : goal.invariant-loop-resource
invariant-loop-resource l = l.tree ≡ tree_of (take l.resource-index l.resources)
