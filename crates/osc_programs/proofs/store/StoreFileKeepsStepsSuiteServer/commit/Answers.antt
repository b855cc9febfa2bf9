-- What is said of the keeper is said of the one that was there at first.
use Rattle.std.proofs.Common.{IfErr, ap, subst, sym, ◌∙◌, ◌≤◌}
use Rattle.sqlite_disk.specs.Disk.{MoreFaults}
use Rattle.sqlite_store.specs.FileStore.{faults, recovers, view}
use Rattle.sqlite_trees.specs.View.{IsClean}
use Rattle.osc_store.specs.{Writes}
use Rattle.osc_store.specs.Causes.{WhyNotKept}
use Rattle.osc_programs.proofs.store.StoreFileKeepsStepsSuiteServer.commit.Goals as goal

pub returns-clause-kept : goal.returns-clause-kept
returns-clause-kept g c first last writes =
    c.commit.ensures.kept first.tree last.tree
    (subst (λ keeper. IsClean (view keeper.store) → Writes view recovers keeper.store keeper.pending first.tree last.tree) (sym c.note_change.ensures.keeper) writes)

pub returns-clause-crash : goal.returns-clause-crash
returns-clause-crash g c first last writes =
    c.commit.ensures.crash first.tree last.tree
    (subst (λ keeper. IsClean (view keeper.store) → Writes view recovers keeper.store keeper.pending first.tree last.tree) (sym c.note_change.ensures.keeper) writes)

pub returns-clause-cause : goal.returns-clause-cause
returns-clause-cause g c first last writes trust =
    let new = c.commit.new.self in
    subst (λ keeper. IfErr c.commit.result (WhyNotKept (MoreFaults (faults keeper.store) (faults new.store)) ⊥)) c.note_change.ensures.keeper
    (c.commit.ensures.cause first.tree last.tree
    (subst (λ keeper. IsClean (view keeper.store) → Writes view recovers keeper.store keeper.pending first.tree last.tree) (sym c.note_change.ensures.keeper) writes) trust)

pub returns-clause-nothing : goal.returns-clause-nothing
returns-clause-nothing g c none =
    let it = c.commit.ensures.nothing (ap (λ keeper. keeper.pending) c.note_change.ensures.keeper ∙ none) in
    (it.0, ap (λ keeper. record c.note_change.new.self { keeper = keeper }) it.1 ∙ c.note_change.ensures.nothing none)

pub returns-clause-counts : goal.returns-clause-counts
returns-clause-counts g c = subst (λ keeper. faults keeper.store ≤ faults c.commit.new.self.store) c.note_change.ensures.keeper c.commit.ensures.counts

pub returns-clause-trust : goal.returns-clause-trust
returns-clause-trust g c trust = subst (λ keeper. IsClean (view keeper.store)) c.note_change.ensures.keeper (c.commit.ensures.trust trust)
