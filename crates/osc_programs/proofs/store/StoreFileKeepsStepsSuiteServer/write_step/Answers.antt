-- What the step changed is what its entry says.
use Rattle.std.proofs.Common.{IfErr, OnOk, Option, ap, subst, subst₂, sym, ◌∙◌}
use Rattle.sqlite_disk.specs.Disk.{MoreFaults}
use Rattle.sqlite_store.specs.FileStore.{faults, recovers, view}
use Rattle.sqlite_trees.specs.View.{IsClean}
use Rattle.osc_model.specs.StepNotes.{StepNotes}
use Rattle.osc_model.specs.Tree.{Tree}
use Rattle.osc_model.specs.declared.step.Entry.{Entry}
use Rattle.osc_server.specs.{core}
use Rattle.osc_store.specs.{Writes}
use Rattle.osc_store.specs.Causes.{WhyNotKept}
use Rattle.osc_turn.specs.Kept.{IsChangeOf, path_changed_by}
use Rattle.osc_turn.specs.Kept.Changes.{HasTooLong}
use Rattle.osc_programs.proofs.store.StoreFileKeepsStepsSuiteServer.write_step.Goals as goal

pub returns-clause-kept : goal.returns-clause-kept
returns-clause-kept g c first old cause step made same writes =
    let change = subst₂ (λ (served : Option Entry) (tree : Tree). IsChangeOf served old.tree tree)
    (ap (λ (notes : StepNotes). notes.served) same ∙ sym c.served.ensures) (sym c.tree.ensures)
    (c.one_path_changes.ensures (core old) (core c.args.node.now) _ step.notes made.kind) in
    let new = c.write_change.new.keeping in
    subst (λ (tree : Tree). OnOk c.write_change.result (IsClean (view new.store) → Writes view recovers new.store new.pending first.tree tree)) c.tree.ensures
    (c.write_change.ensures.written first.tree old.tree change writes)

pub returns-clause-crash : goal.returns-clause-crash
returns-clause-crash g c first old cause step made same writes =
    let change = subst₂ (λ (served : Option Entry) (tree : Tree). IsChangeOf served old.tree tree)
    (ap (λ (notes : StepNotes). notes.served) same ∙ sym c.served.ensures) (sym c.tree.ensures)
    (c.one_path_changes.ensures (core old) (core c.args.node.now) _ step.notes made.kind) in
    c.write_change.ensures.crash first.tree old.tree change writes

pub returns-clause-cause : goal.returns-clause-cause
returns-clause-cause g c first old cause step made same writes trust =
    let change = subst₂ (λ (served : Option Entry) (tree : Tree). IsChangeOf served old.tree tree)
    (ap (λ (notes : StepNotes). notes.served) same ∙ sym c.served.ensures) (sym c.tree.ensures)
    (c.one_path_changes.ensures (core old) (core c.args.node.now) _ step.notes made.kind) in
    let new = c.write_change.new.keeping in
    subst (λ (tree : Tree). IfErr c.write_change.result (WhyNotKept (MoreFaults (faults c.args.self.now.keeper.store) (faults new.store)) (HasTooLong tree))) c.tree.ensures
    (c.write_change.ensures.cause first.tree old.tree change writes trust)

pub returns-clause-nothing : goal.returns-clause-nothing
returns-clause-nothing g c none =
    let is = c.write_change.ensures.nothing (ap path_changed_by c.served.ensures ∙ none) in
    (is.0, ap (λ keeper. record c.args.self.now { keeper = keeper }) is.1)
