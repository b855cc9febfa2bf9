use Rattle.std.proofs.Common.{ap, subst, ◌∙◌}
use Rattle.osc_authz.specs.{IsTable, contexts}
use Rattle.osc_authz.specs.Inner.Revoking.{SetsMarks, is_revoked_at}
use Rattle.osc_authz.proofs.LifeLemmas.{follow}
use Rattle.osc_authz.proofs.desk.ServerDesk.mark.Goals as goal

pub returns : goal.returns
returns c = λ before same marked.
    let table = ap (λ desk. desk.table) c.self.view_is in
    let sets : SetsMarks (is_revoked_at c.args.path.now) c.has_resource.result (contexts c.args.self.now.table) c.args.marks.now c.set.new.self =
    coe 0 1 (i. SetsMarks (is_revoked_at c.args.path.now) c.has_resource.result (contexts ((c.deref.ensures.value ∙ table) i)) c.args.marks.now c.set.new.self) c.set.ensures in
    follow before c.args.tree.now c.args.path.now c.has_resource.result c.args.self.now.table c.args.marks.now c.set.new.self
    (subst IsTable table c.self.invariant.0) c.has_resource.ensures sets same marked
