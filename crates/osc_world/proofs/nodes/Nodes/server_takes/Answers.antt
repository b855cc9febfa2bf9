use Rattle.osc_server.specs.{IsStep as IsServerStep, again as server_again}
use Rattle.osc_world.specs.Inner.Tasks.{task_of}
use Rattle.osc_world.specs.{Does}
use Rattle.osc_world.proofs.Taking.{server_kind, server_took, server_stepped}
use Rattle.osc_world.proofs.nodes.Nodes.server_takes.Goals as goal

pub returns-clause-takes : goal.returns-clause-takes
returns-clause-takes g c =
    let n = c.self.inside in
    server_took c.args.self.now n.server_at n.server c.does.new.node n.clients.items n.proxies.items c.by_server.result c.in_ok-step.step c.self.view_is c.by_server.ensures
    (Does (IsServerStep g.A.Ciphers.is_sealing) server_again (task_of c.args.event.now c.args.job)) c.in_ok-step.ensures.does

pub returns-clause-step : goal.returns-clause-step
returns-clause-step g c =
    let n = c.self.inside in
    server_stepped c.args.self.now n.server_at n.server c.does.new.node n.clients.items n.proxies.items c.by_server.result c.in_ok-step.step c.self.view_is c.by_server.ensures
    c.args.event.now.moment (server_kind g.A.Ciphers.is_sealing c.args.event.now c.args.job n.server c.in_ok-step.step c.does.new.node c.in_ok-step.ensures.does)
