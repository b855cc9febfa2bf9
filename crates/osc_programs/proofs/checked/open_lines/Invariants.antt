use Rattle.std.proofs.Common.{◌≡◌, ◌++◌, drop, flat_map, codes}
use Rattle.osc_programs.specs.{shown_line}
use Rattle.osc_programs.proofs.checked.open_lines.Given as goal

-- the lines so far, and those of what is left
abbrev pub invariant-loop-path : goal.invariant-loop-path
invariant-loop-path l = l.text.items ++ flat_map (shown_line (codes "open")) (drop l.path-index l.paths) ≡ flat_map (shown_line (codes "open")) l.paths
