use Rattle.osc_model.proofs.Segments.{few_slashes, many_slashes}
use Rattle.osc_model.proofs.path.are_segments.Goals as goal

pub returns-then-slashes-lt-MOST_SEGMENTS : goal.returns-then-slashes-lt-MOST_SEGMENTS
returns-then-slashes-lt-MOST_SEGMENTS c = few_slashes c.slashes.result c.args.rest.now _ c.slashes.ensures c.if-slashes-lt-MOST_SEGMENTS.true c.all_segments.ensures

pub returns-else-slashes-lt-MOST_SEGMENTS : goal.returns-else-slashes-lt-MOST_SEGMENTS
returns-else-slashes-lt-MOST_SEGMENTS c = many_slashes c.slashes.result c.args.rest.now c.slashes.ensures c.if-slashes-lt-MOST_SEGMENTS.false
