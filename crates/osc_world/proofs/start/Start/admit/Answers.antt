use Rattle.std.proofs.Common.{◌≡◌, ◌++◌, ◌∷◌, [], false, ap, ◌∙◌, subst, length, rules}
use Rattle.osc_model.specs.declared.node.Peer.{Peer}
use Rattle.osc_world.specs.{is_among, places, Beginning, IsEnrolled, places_of}
use Rattle.osc_world.proofs.Apart.{one_more_client}
use Rattle.osc_world.proofs.Enrolling.{enrolled_more, enrols}
use Rattle.osc_world.proofs.start.Start.admit.Goals as goal

pub invariant_of-self-2 : goal.invariant_of-self-2
invariant_of-self-2 g c =
    let s = c.self.inside in
    let minted = c.in_ok-minted.minted in
    let placed = c.in_ok-minted.placed in
    let number : c.len-number.result ≡ length s.clients.items = search rules in
    let is : IsEnrolled g.A.Ciphers.is_sealing s.key (length s.clients.items) c.args.holder minted placed =
    subst (λ n. IsEnrolled g.A.Ciphers.is_sealing s.key n c.args.holder minted placed) number c.in_ok-minted.ensures.enrolled in
    let all : c.push_reserved.new.self.items ≡ s.minted.items ++ minted ∷ [] = c.push_reserved.ensures.items ∙ ap (λ xs. xs ++ minted ∷ []) c.reserve.ensures.items in
    let others : c.push_reserved-2.new.self.items ≡ s.clients.items ++ placed ∷ [] =
    c.push_reserved-2.ensures.items ∙ ap (λ xs. xs ++ placed ∷ []) c.reserve-2.ensures.items in
    let at : placed.at ≡ c.args.holder.at = c.in_ok-minted.ensures.enrolled.client.at in
    let free : is_among placed.at (places s.server_at s.clients.items s.proxies.items) ≡ false =
    ap (λ (p : Peer). is_among p (places s.server_at s.clients.items s.proxies.items)) at
    ∙ ap (λ (start : Beginning). is_among c.args.holder.at (places_of start)) c.self.view_is ∙ c.requires in
    rw (all, others) (
      enrolled_more g.A.Ciphers.is_sealing s.key c.args.holder s.minted.items s.clients.items minted placed c.self.invariant.0 is c.in_ok-minted.ensures.text,
      one_more_client c.one_peer.ensures.same c.one_peer.ensures.itself s.server_at s.clients.items s.proxies.items placed free c.self.invariant.1,
    )

pub returns-clause-enrolled : goal.returns-clause-enrolled
returns-clause-enrolled g c =
    let s = c.self.inside in
    let minted = c.in_ok-minted.minted in
    let placed = c.in_ok-minted.placed in
    let number : c.len-number.result ≡ length s.clients.items = search rules in
    let is : IsEnrolled g.A.Ciphers.is_sealing s.key (length s.clients.items) c.args.holder minted placed =
    subst (λ n. IsEnrolled g.A.Ciphers.is_sealing s.key n c.args.holder minted placed) number c.in_ok-minted.ensures.enrolled in
    enrols g.A.Ciphers.is_sealing c.args.self.now s.first s.open_scope s.key s.old_key s.audience s.rules s.server_at s.minted.items c.push_reserved.new.self.items s.clients.items c.push_reserved-2.new.self.items
    s.proxies.items c.args.holder minted placed c.self.view_is is
    (c.push_reserved.ensures.items ∙ ap (λ xs. xs ++ minted ∷ []) c.reserve.ensures.items)
    (c.push_reserved-2.ensures.items ∙ ap (λ xs. xs ++ placed ∷ []) c.reserve-2.ensures.items)
