use Rattle.std.proofs.Common.{◌≡◌}
use Rattle.osc_options.specs.{unrecognised_critical}
use Rattle.osc_programs.proofs.strange.bad_option.Given as goal

abbrev pub invariant-loop-number : goal.invariant-loop-number
invariant-loop-number l = unrecognised_critical l.before l.number-iterator ≡ unrecognised_critical 0 l.fn.options
