-- What was made is held; without memory for its box nothing is.
use Rattle.std.proofs.Common.{inl, inr, refl, rules}
use Rattle.osc_c.proofs.Lending.{makes_by}
use Rattle.osc_c.proofs.device.nzf_device_new.Goals as goal

pub returns : goal.returns
returns c = makes_by _ _ _ _ _ _ c.hold.ensures (search rules) c.new.ensures.ok c.new.ensures.err (λ node is. inl (inr (refl, is.0.fits)))
