-- The first targets are copied.
use Rattle.std.proofs.Common.{◌≡◌, take}
use Rattle.osc_c.proofs.calls.setting.Settings.copied.Given as goal

abbrev pub invariant-loop-target : goal.invariant-loop-target
invariant-loop-target l = l.targets ≡ take l.target-index l.target-items
