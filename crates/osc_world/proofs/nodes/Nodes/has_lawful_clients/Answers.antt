use Rattle.std.proofs.Common.{◌≡◌, ◌∙◌, ap, subst}
use Rattle.osc_world.specs.{AreLawfulClients, NodeStates}
use Rattle.osc_world.proofs.nodes.Nodes.has_lawful_clients.Goals as goal

pub returns : goal.returns
returns c =
    let same : c.deref.result.now ≡ c.args.self.now.clients = c.deref.ensures.value ∙ ap (λ (n : NodeStates). n.clients) c.self.view_is in
    subst AreLawfulClients same c.are_lawful_clients.ensures
