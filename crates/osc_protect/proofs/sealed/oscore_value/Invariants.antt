use Rattle.std.proofs.Common.{◌≡◌, ℕ}
use Rattle.osc_coap.specs.{AreOptions}
use Rattle.osc_options.specs.{value}
use Rattle.osc_protect.proofs.sealed.oscore_value.Given as goal

abbrev pub invariant-loop-number : goal.invariant-loop-number
invariant-loop-number l = record {
  found : value 9 l.number-iterator ≡ value 9 l.message.options;
  order : (before : ℕ) × AreOptions before l.number-iterator;
}
