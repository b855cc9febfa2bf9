use Rattle.std.proofs.Common.{◌≡◌, ◌∙◌, false, List, ap, sym, rules}
use Rattle.std.specs.List.{list_any}
use Rattle.osc_model.specs.{same_peer}
use Rattle.osc_proxy.specs.State.{State as Proxy}
use Rattle.osc_client.specs.State.{State as Client}
use Rattle.osc_world.specs.{is_among, Beginning, places_of}
use Rattle.osc_world.specs.declared.nodes.Placed.{Placed}
use Rattle.osc_world.proofs.Apart.{among_places, at_a_proxy_alone}
use Rattle.osc_world.proofs.start.Start.is_taken.Goals as goal
use Rattle.osc_world.proofs.start.Start.is_taken.Goals.{then-eq, else-eq}

pub returns-then-stands_at : goal.returns-then-stands_at
returns-then-stands_at c = rw (among_places c.args.at c.args.self.now.server_at c.args.self.now.clients c.args.self.now.proxies) (search rules)

pub returns-else-stands_at : goal.returns-else-stands_at
returns-else-stands_at c =
    let s = c.self.inside in
    elim c.if-eq.branch [
      | then-eq w ↦ absurd (cc)
      | else-eq w ↦
          let server : same_peer s.server_at c.args.at ≡ false = search rules in
          let client : list_any (λ (p : Placed Client). same_peer p.at c.args.at) s.clients.items ≡ false =
          ap (λ (all : List (Placed Client)). list_any (λ (p : Placed Client). same_peer p.at c.args.at) all) (sym w.deref.ensures.value) ∙ sym w.stands_at.ensures ∙ sym w.value-is ∙ c.if-stands_at.false in
          let proxy : c.forwards_at.result ≡ list_any (λ (p : Placed Proxy). same_peer p.at c.args.at) s.proxies.items =
          c.forwards_at.ensures ∙ ap (λ (all : List (Placed Proxy)). list_any (λ (p : Placed Proxy). same_peer p.at c.args.at) all) c.deref-else-stands_at.ensures.value in
          at_a_proxy_alone c.args.at s.server_at s.clients.items s.proxies.items c.forwards_at.result server client proxy
          ∙ ap (λ (start : Beginning). is_among c.args.at (places_of start)) c.self.view_is
    ]
