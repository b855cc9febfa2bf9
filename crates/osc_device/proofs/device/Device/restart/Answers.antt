use Rattle.std.proofs.Common.{subst}
use Rattle.osc_device.specs.{AllGoOn, restarts}
use Rattle.osc_device.specs.State.{State}
use Rattle.osc_device.proofs.Going.{device}
use Rattle.osc_device.proofs.device.Device.restart.Goals as goal

pub returns-clause-run : goal.returns-clause-run
returns-clause-run c = λ now.
    let new = device c.restart.new.self c.restart-2.new.self in
    subst (λ (o : State). AllGoOn o restarts new) c.self.view_is
    (c.runs_go_on_alone.ensures.restarted (device c.self.inside.server c.self.inside.own) new now (c.restart.ensures.kind now) c.restart-2.ensures.kind)
