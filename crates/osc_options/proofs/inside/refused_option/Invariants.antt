use Rattle.std.proofs.Common.{◌≡◌}
use Rattle.osc_options.specs.{refused_option}
use Rattle.osc_options.proofs.inside.refused_option.Given as goal

abbrev pub invariant-loop-number : goal.invariant-loop-number
invariant-loop-number l = refused_option l.before l.number-iterator ≡ refused_option 0 l.plaintext.options
