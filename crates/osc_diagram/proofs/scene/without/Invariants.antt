use Rattle.std.proofs.Common.{◌≡◌, ◌++◌, drop}
use Rattle.osc_diagram.specs.Scenes.{without}
use Rattle.osc_diagram.proofs.scene.without.Given as goal

-- the numbers so far, and those that are left
abbrev pub invariant-loop-other : goal.invariant-loop-other
invariant-loop-other l = l.others.items ++ without l.number (drop l.other-index l.numbers) ≡ without l.number l.numbers
