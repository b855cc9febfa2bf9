use Rattle.std.proofs.Common.{◌≡◌, Some, length, refl, rules}
use Rattle.std.proofs.lemmas.Option.{slice_get_read}
use Rattle.std.specs.Prelude.{slice_get}
use Rattle.osc_proxy.specs.{restarted as proxy_again, IsStep as IsProxyStep}
use Rattle.osc_world.specs.Inner.Tasks.{task_of}
use Rattle.osc_world.specs.{Does}
use Rattle.osc_world.proofs.Taking.{proxy_kind, proxy_took, proxy_stepped, few_of_proxy}
use Rattle.osc_world.proofs.nodes.Nodes.proxy_takes.Goals as goal

pub returns-clause-takes : goal.returns-clause-takes
returns-clause-takes g c =
    let n = c.self.inside in
    let found : slice_get n.proxies.items c.args.number ≡ Some c.in-Some.placed.now = slice_get_read n.proxies.items (length n.proxies.items) c.args.number _ refl (search rules) c.in-Some.ensures.value in
    proxy_took c.args.self.now n.server_at n.server n.clients.items n.proxies.items c.args.number c.in-Some.placed.now c.self.view_is found
    c.does.new.node c.by_proxy.result c.in_ok-step.step c.by_proxy.ensures (Does IsProxyStep proxy_again (task_of c.args.event.now c.args.job)) c.in_ok-step.ensures.does

pub returns-clause-step : goal.returns-clause-step
returns-clause-step g c =
    let n = c.self.inside in
    let found : slice_get n.proxies.items c.args.number ≡ Some c.in-Some.placed.now = slice_get_read n.proxies.items (length n.proxies.items) c.args.number _ refl (search rules) c.in-Some.ensures.value in
    proxy_stepped c.args.self.now n.server_at n.server n.clients.items n.proxies.items c.args.number c.in-Some.placed.now c.self.view_is found
    c.does.new.node c.by_proxy.result c.in_ok-step.step c.by_proxy.ensures c.args.event.now.moment
    (proxy_kind c.args.event.now c.args.job c.in-Some.placed.now.node c.in_ok-step.step c.does.new.node c.in_ok-step.ensures.does)

pub returns-clause-few : goal.returns-clause-few
returns-clause-few g c =
    let n = c.self.inside in
    let found : slice_get n.proxies.items c.args.number ≡ Some c.in-Some.placed.now = slice_get_read n.proxies.items (length n.proxies.items) c.args.number _ refl (search rules) c.in-Some.ensures.value in
    few_of_proxy c.args.self.now n.server_at n.server n.clients.items n.proxies.items c.args.number c.in-Some.placed.now c.self.view_is found
    c.in-Some.placed.now.at c.in_ok-step.step.out c.in_ok-step.ensures.few
