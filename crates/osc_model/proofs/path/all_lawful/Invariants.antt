use Rattle.std.proofs.Common.{◌≡◌, map, drop}
use Rattle.std.specs.List.{list_all}
use Rattle.osc_model.specs.{is_segment}
use Rattle.osc_model.proofs.path.all_lawful.Given as goal

-- all are segments where the rest are
abbrev pub invariant-loop-segment : goal.invariant-loop-segment
invariant-loop-segment l = list_all is_segment (map (λ s. s.now) (drop l.segment-index l.segments)) ≡ list_all is_segment (map (λ s. s.now) l.segments)
