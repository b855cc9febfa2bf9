use Rattle.osc_programs.proofs.Openings.{opened_by}
use Rattle.osc_programs.proofs.store.opened.Goals as goal

pub returns-in-Ok : goal.returns-in-Ok
returns-in-Ok g c = opened_by _ _ _ _ _ _ c.new.ensures.store c.in-Ok.ensures.found c.in-Ok.ensures.kept
