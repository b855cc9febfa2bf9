use Rattle.osc_proxy.proofs.ThereAndBack.{is_at_rest}
use Rattle.osc_proxy.proofs.laws.an_acknowledgement_ends_it.Goals as goal

pub returns : goal.returns
returns c = is_at_rest c.one_reception.ensures
