use Rattle.std.proofs.Common.{◌≡◌, ℕ, true, ◌&&◌, nat_eq, bytes_eq, List, refl, ap, ap₂, subst}
use Rattle.std.proofs.lemmas.Bool.{and_parts, and_from, eq-eqb, eqb-true}
use Rattle.std.proofs.lemmas.Slice.Eq.{bytes_eq-Decides}
use Rattle.osc_model.specs.declared.node.Peer.{Peer}
use Rattle.osc_model.proofs.laws.one_peer.Goals as goal

pub returns-clause-same : goal.returns-clause-same
returns-clause-same c a b same =
    let both = and_parts (bytes_eq a.address b.address) (nat_eq a.scope b.scope && nat_eq a.port b.port) same in
    let numbers = and_parts (nat_eq a.scope b.scope) (nat_eq a.port b.port) both.1 in
    let address : a.address ≡ b.address = (bytes_eq-Decides a.address b.address).0 both.0 in
    let scope : a.scope ≡ b.scope = eqb-true a.scope b.scope numbers.0 in
    let port : a.port ≡ b.port = eqb-true a.port b.port numbers.1 in
    subst (λ (x : List ℕ). a ≡ record { address = x; scope = b.scope; port = b.port }) address
    (ap₂ (λ (s p : ℕ). record { address = a.address; scope = s; port = p }) scope port)

pub returns-clause-itself : goal.returns-clause-itself
returns-clause-itself c a =
    and_from (bytes_eq a.address a.address) (nat_eq a.scope a.scope && nat_eq a.port a.port) ((bytes_eq-Decides a.address a.address).1 refl)
    (and_from (nat_eq a.scope a.scope) (nat_eq a.port a.port) (eq-eqb a.scope a.scope refl) (eq-eqb a.port a.port refl))
