use Rattle.std.proofs.Common.{◌≡◌, ◌+◌, length, map, drop}
use Rattle.osc_model.specs.{path_text}
use Rattle.osc_model.proofs.path.text_length.Given as goal

-- what was counted, and then the text of the rest, is the text of all
abbrev pub invariant-loop-segment : goal.invariant-loop-segment
invariant-loop-segment l = l.length + length (path_text (map (λ s. s.now) (drop l.segment-index l.segments))) ≡ length (path_text (map (λ s. s.now) l.segments))
