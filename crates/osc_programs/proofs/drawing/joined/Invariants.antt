use Rattle.std.proofs.Common.{◌≡◌, ◌++◌, drop}
use Rattle.osc_programs.specs.Drawing.{joined}
use Rattle.osc_programs.proofs.drawing.joined.Given as goal

-- the lines so far, and those that are left
abbrev pub invariant-loop-line : goal.invariant-loop-line
invariant-loop-line l = l.text.items ++ joined (drop l.line-index l.lines) ≡ joined l.lines
