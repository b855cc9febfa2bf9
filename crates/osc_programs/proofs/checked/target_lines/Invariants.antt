use Rattle.std.proofs.Common.{◌≡◌, ◌++◌, drop, flat_map}
use Rattle.osc_programs.specs.{target_line}
use Rattle.osc_programs.proofs.checked.target_lines.Given as goal

-- the lines so far, and those of what is left
abbrev pub invariant-loop-target : goal.invariant-loop-target
invariant-loop-target l = l.text.items ++ flat_map target_line (drop l.target-index l.targets) ≡ flat_map target_line l.targets
