use Rattle.osc_device.proofs.Granted.{may_open}
use Rattle.osc_device.proofs.laws.a_granted_device_may_open.Goals as goal

pub returns : goal.returns
returns g c = may_open g.A.Ciphers.is_sealing
