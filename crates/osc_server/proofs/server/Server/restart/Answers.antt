use Rattle.std.proofs.Common.{◌≡◌, [], refl, subst}
use Rattle.osc_message.specs.{fresh_with}
use Rattle.osc_model.specs.{quiet}
use Rattle.osc_run.specs.{ServerStep}
use Rattle.osc_server.specs.{core}
use Rattle.osc_server.specs.State.{State}
use Rattle.osc_server.proofs.StepKinds.{restarts}
use Rattle.osc_server.proofs.server.Server.restart.Goals as goal

pub returns-clause-kind : goal.returns-clause-kind
returns-clause-kind c now =
    let before : State = record { tree = c.self.inside.tree; desk = c.self.inside.desk; open_scope = c.self.inside.open_scope; endpoint = c.self.inside.endpoint } in
    let after : State = record { tree = c.self.inside.tree; desk = c.clear.new.self; open_scope = c.self.inside.open_scope; endpoint = c.clear-2.new.self } in
    let is : after ≡ record before { desk = record before.desk { table = [] }; endpoint = fresh_with before.endpoint.pace.more } = rw (c.clear.ensures, c.clear-2.ensures) refl in
    subst (λ old. ServerStep (core old) now quiet (core after)) c.self.view_is (restarts before after now is)
