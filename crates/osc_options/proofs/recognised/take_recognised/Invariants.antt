use Rattle.std.proofs.Common.{◌≡◌, length}
use Rattle.osc_options.specs.{recognised}
use Rattle.osc_options.proofs.recognised.take_recognised.Given as goal

abbrev pub invariant-loop-number : goal.invariant-loop-number
invariant-loop-number l = recognised l.before l.options ≡ recognised l.fn.before l.fn.options

abbrev pub decreases-loop-number : goal.decreases-loop-number
decreases-loop-number l = length l.options
