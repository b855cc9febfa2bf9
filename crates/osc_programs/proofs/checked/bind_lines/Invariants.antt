use Rattle.std.proofs.Common.{◌≡◌, ◌++◌, drop, flat_map, codes}
use Rattle.osc_programs.specs.{address_line}
use Rattle.osc_programs.proofs.checked.bind_lines.Given as goal

-- the lines so far, and those of what is left
abbrev pub invariant-loop-at : goal.invariant-loop-at
invariant-loop-at l = l.text.items ++ flat_map (address_line (codes "bind")) (drop l.at-index l.bind) ≡ flat_map (address_line (codes "bind")) l.bind
