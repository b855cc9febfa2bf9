use Rattle.std.proofs.Common.{map, take}
use Rattle.osc_words.specs.RequestLines.{Say}
use Rattle.osc_words.proofs.request_lines.read_lines.Given as goal

-- what was read so far is what the lines so far say
abbrev pub invariant-loop-line : goal.invariant-loop-line
invariant-loop-line l = Say (map (λ line. line.now) (take l.line-index l.lines)) l.said.items
