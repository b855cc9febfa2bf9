use Rattle.std.proofs.Common.{◌≡◌, ◌++◌, ◌∷◌, [], false, ap, ◌∙◌}
use Rattle.osc_proxy.specs.State.{State as Proxy}
use Rattle.osc_world.specs.declared.nodes.Placed.{Placed}
use Rattle.osc_world.specs.{is_among, places, Beginning, places_of}
use Rattle.osc_world.proofs.Apart.{one_more_proxy}
use Rattle.osc_world.proofs.start.Start.add.Goals as goal

pub invariant_of-self-2 : goal.invariant_of-self-2
invariant_of-self-2 c =
    let s = c.self.inside in
    let placed : Placed Proxy = record { at = c.args.at; node = c.in_ok-proxy.proxy } in
    let all : c.push_reserved.new.self.items ≡ s.proxies.items ++ placed ∷ [] = c.push_reserved.ensures.items ∙ ap (λ xs. xs ++ placed ∷ []) c.reserve.ensures.items in
    let free : is_among placed.at (places s.server_at s.clients.items s.proxies.items) ≡ false =
    ap (λ (start : Beginning). is_among c.args.at (places_of start)) c.self.view_is ∙ c.requires in
    rw all (c.self.invariant.0, one_more_proxy c.one_peer.ensures.same c.one_peer.ensures.itself s.server_at s.clients.items s.proxies.items placed free c.self.invariant.1)
