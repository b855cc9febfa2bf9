use Rattle.std.proofs.Common.{◌∙◌, ap, map}
use Rattle.osc_client.specs.State.{State as Client}
use Rattle.osc_proxy.specs.State.{State as Proxy}
use Rattle.osc_world.specs.declared.nodes.Placed.{Placed}
use Rattle.osc_lab.proofs.Bound.{all_added}
use Rattle.osc_lab.proofs.ports.bind_all.Goals as goal

pub returns-clause-begins : goal.returns-clause-begins
returns-clause-begins g c =
    let server = c.in_ok-server.ensures.bound in
    let proxies = c.in_ok-proxies.ensures.bound in
    let clients = c.in_ok-clients.ensures.bound in
    let place = c.any_place-place.ensures in
    record {
      server = server.known;
      proxies = proxies.all;
      clients = clients.all;
      is = all_added _ _ _ _ server.known proxies.all clients.all c.new-addresses.ensures server.added proxies.added clients.added;
      named_server = server.named ∙ c.address.ensures;
      named_proxies = proxies.named ∙ ap (map (λ (placed : Placed Proxy). placed.at)) c.proxies.ensures;
      named_clients = clients.named ∙ ap (map (λ (placed : Placed Client). placed.at)) c.clients.ensures;
      server_at = rw place at server.is_at;
      proxies_at = rw place at proxies.are_at;
      clients_at = rw place at clients.are_at;
    }
