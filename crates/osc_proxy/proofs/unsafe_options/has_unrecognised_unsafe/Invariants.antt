use Rattle.std.proofs.Common.{◌≡◌}
use Rattle.osc_options.specs.{has_unrecognised_unsafe}
use Rattle.osc_proxy.proofs.unsafe_options.has_unrecognised_unsafe.Given as goal

abbrev pub invariant-loop-number : goal.invariant-loop-number
invariant-loop-number l = has_unrecognised_unsafe l.before l.number-iterator ≡ has_unrecognised_unsafe 0 l.message.options
