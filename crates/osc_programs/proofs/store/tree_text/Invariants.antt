use Rattle.std.proofs.Common.{◌≡◌, ◌++◌, flat_map}
use Rattle.std.specs.FinMap as map
use Rattle.osc_programs.specs.{stored_line}
use Rattle.osc_programs.proofs.store.tree_text.Given as goal

-- the lines so far, and those of what is left
abbrev pub invariant-loop-path : goal.invariant-loop-path
invariant-loop-path l = l.text.items ++ flat_map stored_line l.path-iterator ≡ flat_map stored_line (map.entries l.tree)
