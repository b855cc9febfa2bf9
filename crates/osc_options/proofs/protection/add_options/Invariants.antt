use Rattle.std.proofs.Common.{◌≡◌, ◌<◌, None}
use Rattle.osc_coap.specs.{last_number}
use Rattle.osc_options.specs.Inner.Merging.{with_options}
use Rattle.osc_options.specs.{AreInOrder}
use Rattle.osc_options.proofs.protection.add_options.Given as goal

abbrev pub invariant-loop-number : goal.invariant-loop-number
invariant-loop-number l = record {
  whole : with_options l.message l.number-iterator ≡ with_options l.fn.message l.fn.options;
  code : 0 < l.message.code;
  first : l.message.payload ≡ None;
  order : AreInOrder (last_number 0 l.message.options) l.number-iterator;
}
