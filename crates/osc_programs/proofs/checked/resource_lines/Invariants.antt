use Rattle.std.proofs.Common.{◌≡◌, ◌++◌, drop, flat_map}
use Rattle.osc_programs.specs.{resource_line}
use Rattle.osc_programs.proofs.checked.resource_lines.Given as goal

-- the lines so far, and those of what is left
abbrev pub invariant-loop-resource : goal.invariant-loop-resource
invariant-loop-resource l = l.text.items ++ flat_map resource_line (drop l.resource-index l.resources) ≡ flat_map resource_line l.resources
