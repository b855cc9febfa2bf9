-- One segment more than there are slashes.
use Rattle.osc_c.proofs.Texts.{few_slashes}
use Rattle.osc_c.proofs.calls.making.has_few_segments.Goals as goal

pub returns-in-Some : goal.returns-in-Some
returns-in-Some c = few_slashes _ _ _ _ c.in-Some.ensures.cases.0 c.slashes.ensures
