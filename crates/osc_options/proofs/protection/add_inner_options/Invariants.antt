use Rattle.std.proofs.Common.{◌≡◌, None}
use Rattle.osc_coap.specs.{last_number}
use Rattle.osc_options.specs.Inner.Merging.{with_inner_options}
use Rattle.osc_options.specs.{AreInOrder}
use Rattle.osc_options.proofs.protection.add_inner_options.Given as goal

abbrev pub invariant-loop-number : goal.invariant-loop-number
invariant-loop-number l = record {
  whole : with_inner_options l.plaintext l.number-iterator ≡ with_inner_options l.fn.plaintext l.fn.options;
  first : l.plaintext.payload ≡ None;
  order : AreInOrder (last_number 0 l.plaintext.options) l.number-iterator;
}
