use Rattle.std.proofs.Common.{take}
use Rattle.osc_diagram.specs.Scenes.{PlayAll}
use Rattle.osc_diagram.proofs.play.play_all.Given as goal

-- the lines so far are done, with a scene for each
abbrev pub invariant-loop-line : goal.invariant-loop-line
invariant-loop-line l = PlayAll l.names (record { stage = l.initial.stage; lost = l.initial.lost.items }) (take l.line-index l.lines) l.scenes.items
    (record { stage = l.stage; lost = l.lost.items })
