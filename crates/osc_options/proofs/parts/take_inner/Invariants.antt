use Rattle.std.proofs.Common.{◌≡◌, length}
use Rattle.osc_options.specs.{inner_options}
use Rattle.osc_options.proofs.parts.take_inner.Given as goal

abbrev pub invariant-loop-number : goal.invariant-loop-number
invariant-loop-number l = inner_options l.options ≡ inner_options l.fn.options

abbrev pub decreases-loop-number : goal.decreases-loop-number
decreases-loop-number l = length l.options
