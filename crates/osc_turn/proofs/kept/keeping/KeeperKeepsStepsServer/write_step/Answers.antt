-- What the step changed is what its entry says.
use Rattle.std.proofs.Common.{IfErr, OnOk, Option, ap, subst, subst₂, sym, ◌∙◌}
use Rattle.sqlite_disk.specs.Disk.{MoreFaults}
use Rattle.sqlite_trees.specs.View.{IsClean}
use Rattle.osc_model.specs.StepNotes.{StepNotes}
use Rattle.osc_model.specs.Tree.{Tree}
use Rattle.osc_model.specs.declared.step.Entry.{Entry}
use Rattle.osc_server.specs.{core}
use Rattle.osc_store.specs.{Writes}
use Rattle.osc_store.specs.Causes.{WhyNotKept}
use Rattle.osc_turn.specs.Kept.{HasTooLong, IsChangeOf}
use Rattle.osc_turn.proofs.kept.keeping.KeeperKeepsStepsServer.write_step.Goals as goal

pub returns-clause-kept : goal.returns-clause-kept
returns-clause-kept g c first old cause step made same writes =
    let change = subst₂ (λ (served : Option Entry) (tree : Tree). IsChangeOf served old.tree tree)
    (ap (λ (notes : StepNotes). notes.served) same ∙ sym c.served.ensures) (sym c.tree.ensures)
    (c.one_path_changes.ensures (core old) (core c.args.node.now) _ step.notes made.kind) in
    subst (λ (tree : Tree). OnOk c.write_change.result
    (IsClean (g.S.Store.view c.write_change.new.keeping.store)
    → Writes g.S.Store.view g.S.Store.recovers c.write_change.new.keeping.store c.write_change.new.keeping.pending first.tree tree))
    c.tree.ensures (c.write_change.ensures.written first.tree old.tree change writes)

pub returns-clause-crash : goal.returns-clause-crash
returns-clause-crash g c first old cause step made same writes =
    let change = subst₂ (λ (served : Option Entry) (tree : Tree). IsChangeOf served old.tree tree)
    (ap (λ (notes : StepNotes). notes.served) same ∙ sym c.served.ensures) (sym c.tree.ensures)
    (c.one_path_changes.ensures (core old) (core c.args.node.now) _ step.notes made.kind) in
    c.write_change.ensures.crash first.tree old.tree change writes

pub returns-clause-cause : goal.returns-clause-cause
returns-clause-cause g c first old cause step made same writes trusts =
    let change = subst₂ (λ (served : Option Entry) (tree : Tree). IsChangeOf served old.tree tree)
    (ap (λ (notes : StepNotes). notes.served) same ∙ sym c.served.ensures) (sym c.tree.ensures)
    (c.one_path_changes.ensures (core old) (core c.args.node.now) _ step.notes made.kind) in
    subst (λ (tree : Tree). IfErr c.write_change.result
    (WhyNotKept (MoreFaults (g.S.Store.faults c.args.self.now.store) (g.S.Store.faults c.write_change.new.keeping.store)) (HasTooLong tree)))
    c.tree.ensures (c.write_change.ensures.cause first.tree old.tree change writes trusts)
