use Rattle.std.proofs.Common.{[], arith}
use Rattle.osc_model.proofs.Segments.{length_stays}
use Rattle.osc_model.proofs.path.text_length.Goals as goal

pub overflow_add-length-in-loop-segment : goal.overflow_add-length-in-loop-segment
overflow_add-length-in-loop-segment c =
    omega (arith, length_stays c.args.segments.now c.loop-segment.segment-index (record { ref_ptr = (0, 0); now = [] }) c.loop-segment.length c.requires c.loop-segment-test.true c.loop-segment.invariant)
