use Rattle.std.proofs.Common.{◌≡◌, ◌++◌, drop}
use Rattle.osc_diagram.specs.Marks.{scenes_marks}
use Rattle.osc_diagram.proofs.marks.scenes_marks.Given as goal

-- the marks so far, and those of the scenes that are left
abbrev pub invariant-loop-scene : goal.invariant-loop-scene
invariant-loop-scene l = l.marks.items ++ scenes_marks l.run (drop l.scene-index l.scenes) ≡ scenes_marks l.run l.scenes
