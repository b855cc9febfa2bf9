use Rattle.std.proofs.Common.{rules, sym, ap, List, ℕ, Option, Some, ◌≡◌, ◌∙◌}
use Rattle.osc_model.specs.{revocation_of, stands}
use Rattle.osc_model.specs.Tree.{Tree}
use Rattle.osc_model.specs.declared.request.Request.{Request}
use Rattle.osc_device.specs.State.{State}
use Rattle.osc_device.proofs.Going.{same_rules}
use Rattle.osc_device.proofs.device.Device.rule_once.Goals as goal

pub returns-in_ok-round-in-Some : goal.returns-in_ok-round-in-Some
returns-in_ok-round-in-Some g c =
    let desk = c.desk.ensures.desk ∙ ap (λ (device : State). device.server.desk) c.self.view_is in
    let path = sym (c.in_ok-path.ensures.path ∙ ap (λ desk. revocation_of desk.rules.revoked c.args.id.now) desk) ∙ c.in-Some.is in
    let asked = rw c.own_request-request.ensures.request at c.in_ok-round-in-Some.ensures.0 in
    let its : c.own_request-request.result.path ≡ Some c.in-Some.path = ap (λ (request : Request). request.path) c.own_request-request.ensures.request in
    let kept = same_rules g.A.Ciphers.is_sealing c.args.self.now.server c.ask.new.self.server _ c.in_ok-round-in-Some.round.served
    c.in_ok-round-in-Some.ensures.0.asks.carries.reaches in
    let tree : c.tree.result.now ≡ c.ask.new.self.server.tree = search rules in
    let told = c.is_there-is_revoked.ensures ∙ ap (λ (tree : Tree). stands tree c.own_request-request.result.path) tree
    ∙ ap (λ (path : Option (List ℕ)). stands c.ask.new.self.server.tree path)
    (its ∙ sym path ∙ ap (λ its. revocation_of its.revoked c.args.id.now) (sym kept)) in
    ((c.in-Some.path, path, rw (c.nothing.ensures, c.method.ensures) at asked, told), tt)
