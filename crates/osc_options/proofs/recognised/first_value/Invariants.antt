use Rattle.std.proofs.Common.{◌≡◌}
use Rattle.osc_options.specs.{value}
use Rattle.osc_options.proofs.recognised.first_value.Given as goal

abbrev pub invariant-loop-found : goal.invariant-loop-found
invariant-loop-found l = value l.number l.found-iterator ≡ value l.number l.fn.options
