use Rattle.std.proofs.Common.{◌≡◌, length}
use Rattle.osc_options.specs.{outer_options}
use Rattle.osc_options.proofs.parts.take_outer.Given as goal

abbrev pub invariant-loop-number : goal.invariant-loop-number
invariant-loop-number l = outer_options l.options ≡ outer_options l.fn.options

abbrev pub decreases-loop-number : goal.decreases-loop-number
decreases-loop-number l = length l.options
