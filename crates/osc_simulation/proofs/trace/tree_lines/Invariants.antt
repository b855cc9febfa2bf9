use Rattle.std.proofs.Common.{◌≡◌, ◌++◌, flat_map}
use Rattle.std.specs.FinMap as map
use Rattle.osc_simulation.specs.{resource_text}
use Rattle.osc_simulation.proofs.trace.tree_lines.Given as goal

abbrev pub invariant-loop-path : goal.invariant-loop-path
invariant-loop-path l = l.lines.items ++ flat_map resource_text l.path-iterator ≡ flat_map resource_text (map.entries l.tree)
