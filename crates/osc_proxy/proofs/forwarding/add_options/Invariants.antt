use Rattle.std.proofs.Common.{◌≡◌, ◌<◌, None}
use Rattle.osc_coap.specs.{last_number}
use Rattle.osc_options.specs.Inner.Merging.{with_options}
use Rattle.osc_options.specs.{AreInOrder}
use Rattle.osc_proxy.specs.Inner.Rewriting.{staying}
use Rattle.osc_proxy.proofs.forwarding.add_options.Given as goal

abbrev pub invariant-loop-number : goal.invariant-loop-number
invariant-loop-number l = record {
  whole : with_options l.message (staying l.rewriting l.number-iterator) ≡ with_options l.fn.message (staying l.rewriting l.fn.options);
  code : 0 < l.message.code;
  first : l.message.payload ≡ None;
  order : AreInOrder (last_number 0 l.message.options) (staying l.rewriting l.number-iterator);
}
