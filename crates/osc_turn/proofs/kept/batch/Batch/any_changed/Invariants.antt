use Rattle.std.proofs.Common.{◌≡◌, take}
use Rattle.osc_turn.specs.Running.{any_changed}
use Rattle.osc_turn.proofs.kept.batch.Batch.any_changed.Given as goal

abbrev pub invariant-loop-stepped : goal.invariant-loop-stepped
invariant-loop-stepped l = l.any ≡ any_changed (take l.stepped-index l.stepped-items)
