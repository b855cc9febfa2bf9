use Rattle.std.proofs.Common.{◌≡◌, ◌≤◌, None, drop}
use Rattle.osc_coap.specs.{last_number}
use Rattle.osc_options.specs.Inner.Merging.{with_inner_options}
use Rattle.osc_options.specs.{each}
use Rattle.osc_options.proofs.written_plaintext.add_tags.Given as goal

abbrev pub invariant-loop-tag : goal.invariant-loop-tag
invariant-loop-tag l = record {
  whole : with_inner_options l.plaintext (each 1 (drop l.tag-index l.tag-items)) ≡ with_inner_options l.fn.plaintext (each 1 l.fn.tags);
  first : l.plaintext.payload ≡ None;
  order : last_number 0 l.plaintext.options ≤ 1;
}
