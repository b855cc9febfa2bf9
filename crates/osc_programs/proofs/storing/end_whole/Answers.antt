use Rattle.std.proofs.Common.{inl, inr, refl}
use Rattle.osc_programs.proofs.storing.end_whole.Goals as goal

pub returns-in-Ok-clause-over : goal.returns-in-Ok-clause-over
returns-in-Ok-clause-over g c = inl refl

pub returns-in-Err-clause-over : goal.returns-in-Err-clause-over
returns-in-Err-clause-over g c = inr tt
