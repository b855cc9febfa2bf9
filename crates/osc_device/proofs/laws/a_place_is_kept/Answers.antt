use Rattle.osc_device.proofs.Granted.{may_return}
use Rattle.osc_device.proofs.laws.a_place_is_kept.Goals as goal

pub returns : goal.returns
returns g c = may_return c.a_kept_place_is_free.ensures g.A.Ciphers.is_sealing
