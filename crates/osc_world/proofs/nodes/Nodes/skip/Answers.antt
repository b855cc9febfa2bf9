use Rattle.std.proofs.Common.{◌≡◌, Some, length, refl, rules}
use Rattle.std.proofs.lemmas.Option.{slice_get_read}
use Rattle.std.specs.Prelude.{slice_get}
use Rattle.osc_world.proofs.Taking.{client_skipped}
use Rattle.osc_world.proofs.nodes.Nodes.skip.Goals as goal

pub returns-clause-kind : goal.returns-clause-kind
returns-clause-kind c =
    let n = c.self.inside in
    let found : slice_get n.clients.items c.args.client ≡ Some c.in-Some.placed.now =
    slice_get_read n.clients.items (length n.clients.items) c.args.client _ refl (search rules) c.in-Some.ensures.value in
    client_skipped c.args.self.now n.server_at n.server n.clients.items n.proxies.items c.args.client c.in-Some.placed.now c.self.view_is found c.skip_to.new.self c.skip_to.ensures.kind
