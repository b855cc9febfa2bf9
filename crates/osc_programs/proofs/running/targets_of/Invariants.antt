use Rattle.std.proofs.Common.{◌≡◌, map, take}
use Rattle.osc_programs.specs.{target_of}
use Rattle.osc_programs.proofs.running.targets_of.Given as goal

abbrev pub invariant-loop-setting : goal.invariant-loop-setting
invariant-loop-setting l = l.targets ≡ map target_of (take l.setting-index l.settings)
