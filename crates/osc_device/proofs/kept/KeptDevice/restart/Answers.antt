use Rattle.std.proofs.Common.{ap, refl}
use Rattle.osc_device.specs.{HasRestarted, KeptState}
use Rattle.osc_device.proofs.Keeping.{moved}
use Rattle.osc_device.proofs.kept.KeptDevice.restart.Goals as goal

pub returns-clause-restarted : goal.returns-clause-restarted
returns-clause-restarted g c = (
  moved HasRestarted c.self.inside.device c.args.self.now.device c.restart.new.self c.restart.new.self (ap (λ k. k.device) c.self.view_is) refl
      (record { server = c.restart.ensures.server; own = c.restart.ensures.own; run = c.restart.ensures.run }),
  ap (λ (k : KeptState g.row.K.Denot). record k { device = c.restart.new.self }) c.self.view_is,
)
