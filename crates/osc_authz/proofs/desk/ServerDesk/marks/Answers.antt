use Rattle.std.proofs.Common.{List, subst, ap, ◌∙◌}
use Rattle.osc_authz.specs.{AreMarked}
use Rattle.osc_authz.specs.declared.token_entry.TokenEntry.{TokenEntry}
use Rattle.osc_authz.proofs.LifeLemmas.{marked_by}
use Rattle.osc_authz.proofs.desk.ServerDesk.marks.Goals as goal

pub returns : goal.returns
returns c =
    let table = ap (λ desk. desk.table) c.self.view_is in
    subst (λ (t : List TokenEntry). AreMarked c.args.tree.now t c.of.result) table
    (marked_by c.args.tree.now c.self.inside.table.items c.of.result c.self.invariant.0 (rw (← c.deref.ensures.value) c.of.ensures))
