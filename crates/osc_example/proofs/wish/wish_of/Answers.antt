use Rattle.std.proofs.Common.{◌∙◌}
use Rattle.osc_example.proofs.wish.wish_of.Goals as goal

pub returns-in_ok-from_slice-in-Some-clause-some : goal.returns-in_ok-from_slice-in-Some-clause-some
returns-in_ok-from_slice-in-Some-clause-some c = ((c.wanted_by.ensures c.in-Some.wanted).0 c.in-Some.is, c.in_ok-from_slice-in-Some.ensures ∙ c.name_of.ensures)
