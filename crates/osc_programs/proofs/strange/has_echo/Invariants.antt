use Rattle.std.proofs.Common.{◌≡◌}
use Rattle.osc_programs.specs.Strange.{has_echo}
use Rattle.osc_programs.proofs.strange.has_echo.Given as goal

abbrev pub invariant-loop-number : goal.invariant-loop-number
invariant-loop-number l = has_echo l.number-iterator ≡ has_echo l.fn.options
