use Rattle.osc_model.proofs.Segments.{decides_path, decides_no_slash, decides_empty}
use Rattle.osc_model.proofs.path.Path.is_text.Goals as goal

pub returns-then-first-eq47 : goal.returns-then-first-eq47
returns-then-first-eq47 c = decides_path _ _ _ _ c.in-Some.ensures.cases.0 c.if-first-eq47.true c.are_segments.ensures

pub returns-else-first-eq47 : goal.returns-else-first-eq47
returns-else-first-eq47 c = decides_no_slash _ _ _ c.in-Some.ensures.cases.0 c.if-first-eq47.false

pub returns-in-None : goal.returns-in-None
returns-in-None c = decides_empty _ c.in-None.ensures.cases
