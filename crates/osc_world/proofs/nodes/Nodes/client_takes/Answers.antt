use Rattle.std.proofs.Common.{◌≡◌, ◌∙◌, ap, Some, length, refl, rules}
use Rattle.osc_run.specs.{by_client}
use Rattle.std.proofs.lemmas.Option.{slice_get_read}
use Rattle.std.specs.Prelude.{slice_get}
use Rattle.osc_world.specs.Inner.Tasks.{client_task_of}
use Rattle.osc_world.specs.{ClientDoes, is_lie}
use Rattle.osc_world.proofs.Taking.{client_took, client_stepped, few_of_client}
use Rattle.osc_world.proofs.nodes.Nodes.client_takes.Goals as goal

pub returns-clause-takes : goal.returns-clause-takes
returns-clause-takes g c =
    let n = c.self.inside in
    let task = client_task_of c.args.event.now c.args.job in
    let found : slice_get n.clients.items c.args.number ≡ Some c.in-Some.placed.now = slice_get_read n.clients.items (length n.clients.items) c.args.number _ refl (search rules) c.in-Some.ensures.value in
    let told = c.by_client.ensures ∙ ap (λ lied. by_client c.args.number lied c.in_ok-step.step.notes) (c.lies.ensures c.args.event.now) in
    client_took c.args.self.now n.server_at n.server n.clients.items n.proxies.items c.args.number c.in-Some.placed.now c.self.view_is found
    c.client_does.new.client c.by_client.result c.in_ok-step.step (is_lie task) told
    (ClientDoes g.A.Ciphers.is_sealing g.A.Ciphers.TAG task) c.in_ok-step.ensures.does

pub returns-clause-step : goal.returns-clause-step
returns-clause-step g c =
    let n = c.self.inside in
    let task = client_task_of c.args.event.now c.args.job in
    let found : slice_get n.clients.items c.args.number ≡ Some c.in-Some.placed.now = slice_get_read n.clients.items (length n.clients.items) c.args.number _ refl (search rules) c.in-Some.ensures.value in
    let told = c.by_client.ensures ∙ ap (λ lied. by_client c.args.number lied c.in_ok-step.step.notes) (c.lies.ensures c.args.event.now) in
    client_stepped c.args.self.now n.server_at n.server n.clients.items n.proxies.items c.args.number c.in-Some.placed.now c.self.view_is found
    c.client_does.new.client c.by_client.result c.in_ok-step.step (is_lie task) told c.args.event.now.moment c.in_ok-step.ensures.kind

pub returns-clause-few : goal.returns-clause-few
returns-clause-few g c =
    let n = c.self.inside in
    let found : slice_get n.clients.items c.args.number ≡ Some c.in-Some.placed.now = slice_get_read n.clients.items (length n.clients.items) c.args.number _ refl (search rules) c.in-Some.ensures.value in
    few_of_client c.args.self.now n.server_at n.server n.clients.items n.proxies.items c.args.number c.in-Some.placed.now c.self.view_is found
    c.in-Some.placed.now.at c.in_ok-step.step.out c.in_ok-step.ensures.few
