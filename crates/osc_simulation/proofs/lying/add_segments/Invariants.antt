use Rattle.std.proofs.Common.{◌≡◌, ◌≤◌, None, length, drop}
use Rattle.osc_coap.specs.{last_number}
use Rattle.osc_options.specs.Inner.Merging.{with_inner_options}
use Rattle.osc_model.specs.{segments_of}
use Rattle.osc_options.specs.{each}
use Rattle.osc_simulation.proofs.lying.add_segments.Given as goal

-- the segments that are left make the same plaintext
abbrev pub invariant-loop-segment : goal.invariant-loop-segment
invariant-loop-segment l = record {
  can_next : (goal.iterator-loop-segment).can_next l.segment-iterator;
  is_finite : (goal.iterator-loop-segment).is_finite l.segment-iterator;
  whole : with_inner_options l.plaintext (each 11 (drop (length l.yielded) (segments_of l.fn.path))) ≡ with_inner_options l.fn.plaintext (each 11 (segments_of l.fn.path));
  first : l.plaintext.payload ≡ None;
  order : last_number 0 l.plaintext.options ≤ 11;
}
