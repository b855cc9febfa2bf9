use Rattle.std.proofs.Common.{◌≡◌, false, subst}
use Rattle.osc_message.specs.{acts}
use Rattle.osc_server.specs.State.{State}
use Rattle.osc_server.proofs.Notes.{quiet_tick}
use Rattle.osc_server.proofs.server.Server.next_deadline.Goals as goal

pub returns-clause-idle : goal.returns-clause-idle
returns-clause-idle c = λ now.
    subst (λ (s : State). acts s.endpoint.pace now s.endpoint.sending ≡ false) c.self.view_is (quiet_tick now c.self.inside.endpoint c.self.invariant.0).rests
