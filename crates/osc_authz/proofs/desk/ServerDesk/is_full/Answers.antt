use Rattle.std.proofs.Common.{◌≡◌, ◌↔◌, ◌∙◌, ap, IsTrue}
use Rattle.osc_authz.specs.{IsFull, alive}
use Rattle.osc_authz.specs.Inner.Lives.{alive_by}
use Rattle.osc_authz.proofs.LifeLemmas.{alive_is}
use Rattle.osc_authz.proofs.desk.ServerDesk.is_full.Goals as goal

pub returns : goal.returns
returns c =
    let table = c.deref.ensures.value ∙ ap (λ desk. desk.table) c.self.view_is in
    let same : alive_by c.on.inside.at c.args.marks.now c.deref.result.now ≡ alive c.args.on.now c.args.self.now.table =
    (λ i. alive_by (c.on.view_is i).at c.args.marks.now (table i)) ∙ alive_is c.args.on.now c.args.marks.now c.args.self.now.table c.requires in
    coe 0 1 (i. IsTrue c.is_full.result ↔ IsFull (c.self.view_is i).rules.reserved c.args.token.now (same i)) c.is_full.ensures
